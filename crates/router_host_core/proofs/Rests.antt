-- What is left once a socket took no more.
use Rattle.std.proofs.Common.{◌≡◌, ◌≢◌, ℕ, List, [], ◌∙◌, ap, subst}
use Rattle.outgoing.specs.Flushing.{flushed_of}
use Rattle.outgoing.specs.declared.flushed.Flushed.{Flushed}
use Rattle.outgoing.specs.declared.flushed.Flushed.TheVariants.{All, Waits}

abbrev IsWaits : Flushed → Type 0
IsWaits All = ⊥
IsWaits Waits = Unit {0}

pub some_waits : (rest : List ℕ) → Waits ≡ flushed_of rest → rest ≢ []
some_waits rest is none = subst IsWaits (is ∙ ap flushed_of none) tt
