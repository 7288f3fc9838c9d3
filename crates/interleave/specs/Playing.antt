-- What the play of a world keeps of it.
use Rattle.std.specs.Prelude.{◌≡◌, ℕ, true, Some, List, [], ◌∷◌, ◌++◌, length, map, slice_get}
use Rattle.seq_bus_core.specs.Histories.{History, Begins}
use Rattle.seq_bus_core.specs.Tickets.{WholeBus, bus_step, bus_after}
use Rattle.seq_bus_core.specs.declared.change.Change.{Change}
use Rattle.seq_bus_core.specs.declared.entry.Entry.{Entry}
use Rattle.interleave.specs.declared.play.Play.{Play}
use Rattle.interleave.specs.declared.seat.Made.{Made}
use Rattle.interleave.specs.declared.seat.Seat.{Seat}
use Rattle.interleave.specs.Logs.{AreLines}
use Rattle.interleave_core.specs.Worlds.{Moment, Happened, Logged, is_end}

-- a change, and who makes it
pub record Making : Type 0 where
  pub seat : ℕ
  pub change : Change

abbrev pub making : Made → Making
making made = record { seat = made.seat; change = made.change.now }

abbrev pub making_of : Entry → Making
making_of e = record { seat = e.seat; change = e.change }

abbrev pub makings : ℕ → List Change → List Making
makings seat changes = map (λ change. record { seat = seat; change = change }) changes

-- the bus after these changes
abbrev pub bus_along : WholeBus → List Making → WholeBus
bus_along b [] = b
bus_along b (m ∷ makings) = bus_along (bus_step b m.seat m.change).0 makings

-- how much of the history a seat has seen, and the bus after that
pub record Sight : Type 0 where
  pub seen : ℕ
  pub bus : WholeBus

abbrev pub sight : Seat → Sight
sight seat = record { seen = seat.seen; bus = seat.bus }

abbrev pub sight_of : WholeBus → History → Sight
sight_of opening seen = record { seen = length seen; bus = bus_after opening seen }

-- the play has come to this moment, with this log
pub record IsPlayed (m : Moment) (log : List Logged) (play : Play) : Type 0 where
  pub published : map making play.published.items ≡ map making_of m.published
  pub ends : play.ends.items ≡ m.ends
  pub seats : map sight play.seats.items ≡ map (sight_of m.opening) m.seen
  pub lines : AreLines play.log.items log

-- after a step the play has come on
abbrev pub Comes : Happened → List Logged → Play → Type 0
Comes happened log play = IsPlayed happened.0 (log ++ happened.1) play

-- what each seat has seen begins the history, and so does the history up to each end
pub record AreBeginnings (m : Moment) : Type 0 where
  pub seats : (seat : ℕ) (seen : History) → slice_get m.seen seat ≡ Some seen → Begins seen m.published
  pub ends : (place : ℕ) → is_end m place ≡ true → (point : History) × Begins point m.published × (length point ≡ place)
