-- What comes with a note.
use Rattle.std.specs.Prelude.{◌≡◌, Bool, Option, Some, None}
use Rattle.seq_bus_core.specs.Histories.{History}
use Rattle.router_core.specs.Scripts.{Script, Noting, World, Takes}

-- what is done once the note was taken
abbrev pub after_noting : {X : Type 0} → Option History → Script X → Script X
after_noting None s = s
after_noting (Some told) s = Noting told s

-- the note was taken, if there was one
abbrev pub IsNoteTaken : {N G : Type 0} → Bool → Option History → World N G → World N G → Type 0
IsNoteTaken alone None before after = after ≡ before
IsNoteTaken alone (Some told) before after = Takes alone told before after
