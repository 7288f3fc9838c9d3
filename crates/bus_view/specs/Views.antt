-- What a view of a bus knows, and what a change, a read and a note do to it.
use Rattle.std.specs.Prelude.{◌≡◌, ◌⊎◌, ℕ, ◌+◌, Bool, true, false, Option, Some, List, [], ◌∷◌, ◌++◌, length}
use Rattle.seq_bus_core.specs.Batches.{entries_of, outcomes_of}
use Rattle.seq_bus_core.specs.Histories.{History, IsLegal, Begins, HasJust, entry_alone, longer}
use Rattle.seq_bus_core.specs.Tickets.{WholeBus, bus_step, bus_after}
use Rattle.seq_bus_core.specs.declared.change.Change.{Change}
use Rattle.seq_bus_core.specs.declared.entry.Entry.{Entry}
use Rattle.seq_bus_core.specs.declared.outcome.Outcome.{Outcome}

-- Which registry it is a view of, and how that was opened; the seat by which it makes its changes; the beginning of the history
-- that it has seen; how many changes it made; the place of the last of them in the history, 0 for none; and the longest beginning
-- that a note tells which it made or took.
pub record Knowledge : Type 0 where
  pub registry : ℕ
  pub opening : WholeBus
  pub seat : ℕ
  pub seen : History
  pub made : ℕ
  pub last : ℕ
  pub held : Option History

-- the bus after all that was seen
abbrev pub bus_seen : Knowledge → WholeBus
bus_seen k = bus_after k.opening k.seen

-- A point of the history that begins with all that was seen. Where nobody else makes changes, it is just what was seen.
pub record Reaches (alone : Bool) (seen point : History) : Type 0 where
  pub begun : Begins seen point
  pub same : alone ≡ true → point ≡ seen

-- the entry of the next change, which is a publication of its own
abbrev pub next_entry : Knowledge → Change → Entry
next_entry k change = entry_alone k.seat (k.made + 1) change

-- once this history was seen, to which so many changes of one's own were added last, and which a note tells
abbrev pub having_made : Knowledge → ℕ → History → Knowledge
having_made k count now = record k { seen = now; made = k.made + count; last = length now; held = Some now }

-- the same of one change
abbrev pub having_changed : Knowledge → History → Knowledge
having_changed k now = having_made k 1 now

-- A change was made. What it was told is what the bus says at one point of the history, which begins with all that was seen.
-- There it was added, and the history up to it was seen.
pub record IsChanged (alone : Bool) (old : Knowledge) (change : Change) (outcome : Outcome) (new : Knowledge) : Type 0 where
  pub point : History
  pub reached : Reaches alone old.seen point
  pub told : outcome ≡ (bus_step (bus_after old.opening point) old.seat change).1
  pub added : new ≡ having_changed old (point ++ next_entry old change ∷ [])
  pub legal : IsLegal new.seen
  pub own : HasJust new.seat new.made new.seen

-- A batch of changes was made: they were added together at one point of the history, and each was told what the bus says there once
-- those before it were made.
pub record AreChanged (alone : Bool) (old : Knowledge) (changes : List Change) (outcomes : List Outcome) (new : Knowledge) : Type 0 where
  pub point : History
  pub reached : Reaches alone old.seen point
  pub told : outcomes ≡ outcomes_of (bus_after old.opening point) old.seat changes
  pub added : new ≡ having_made old (length changes) (point ++ entries_of old.seat (old.made + 1) changes)
  pub legal : IsLegal new.seen
  pub own : HasJust new.seat new.made new.seen

-- A read found the bus at one point of the history, which begins with all that was seen, and has of the view's changes just those
-- that it made.
pub record IsRead (alone : Bool) (old new : Knowledge) : Type 0 where
  pub reached : Reaches alone old.seen new.seen
  pub kept : new ≡ record old { seen = new.seen }
  pub legal : IsLegal new.seen
  pub own : HasJust new.seat new.made new.seen

-- A note was taken: what it tells was seen, which is then what was seen before, or just what it tells. Where nobody else makes
-- changes, a note tells nothing.
pub record IsNoted (alone : Bool) (old : Knowledge) (told : History) (new : Knowledge) : Type 0 where
  pub reached : Reaches alone old.seen new.seen
  pub learned : alone ≡ false → Begins told new.seen
  pub one : alone ≡ false → (new.seen ≡ old.seen) ⊎ (new.seen ≡ told)
  pub legal : alone ≡ false → IsLegal new.seen
  pub held : alone ≡ false → new.held ≡ Some (longer old.held told)
  pub kept : new ≡ record old { seen = new.seen; held = new.held }
  pub nothing : alone ≡ true → new ≡ old

-- A query that was not answered: nothing was read, or it was read and nothing more was done.
abbrev pub IsUnread : Bool → Knowledge → Knowledge → Type 0
IsUnread alone old new = (new ≡ old) ⊎ IsRead alone old new
