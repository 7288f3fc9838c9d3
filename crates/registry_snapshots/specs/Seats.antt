-- What a seat of a registry knows, and what a change does to it.
use Rattle.std.specs.Prelude.{◌≡◌, ℕ, zero, suc, false, Option, None, List, [], ◌∷◌, ◌++◌, length}
use Rattle.std.specs.List.{list_any}
use Rattle.logbook.specs.Pages.{Book}
use Rattle.seq_bus_core.specs.BusState.{is_monitor}
use Rattle.seq_bus_core.specs.Histories.{History}
use Rattle.seq_bus_core.specs.Tickets.{WholeBus}
use Rattle.seq_bus_core.specs.declared.change.Change.{Change}
use Rattle.seq_bus_core.specs.declared.outcome.Outcome.{Outcome}
use Rattle.bus_view.specs.Views.{Knowledge, bus_seen, having_made, AreChanged, IsChanged, IsRead}

-- what is a seat's own of what it knows as a view of a bus: which registry it is of, and how that was opened, stands in its type
pub record SeatView : Type 0 where
  pub number : ℕ
  pub seen : History
  pub made : ℕ
  pub last : ℕ
  pub held : Option History

abbrev pub seat_at : ℕ → History → ℕ → ℕ → Option History → SeatView
seat_at number seen made last held = record { number = number; seen = seen; made = made; last = last; held = held }

abbrev pub fresh : ℕ → SeatView
fresh number = seat_at number [] 0 0 None

-- the seats below a number, before anything was seen
abbrev pub fresh_to : ℕ → List SeatView
fresh_to zero = []
fresh_to (suc n) = fresh_to n ++ fresh n ∷ []

-- what a seat knows; a registry goes by the number of its history
abbrev pub knowledge_of : Book → WholeBus → SeatView → Knowledge
knowledge_of book opening seat = record {
  registry = book.number;
  opening = opening;
  seat = seat.number;
  seen = seat.seen;
  made = seat.made;
  last = seat.last;
  held = seat.held;
}

-- A change was made for the seat of this number that had seen so much and made so many changes, whatever else it knows, and this
-- is seen since.
abbrev pub IsSeatChanged : Book → WholeBus → ℕ → History → ℕ → Change → Outcome → History → Type 0
IsSeatChanged book opening number seen made change outcome now = (last : ℕ) (held : Option History) →
    IsChanged false (knowledge_of book opening (seat_at number seen made last held)) change outcome (having_made (knowledge_of book opening (seat_at number seen made last held)) 1 now)

-- the same of a batch
abbrev pub AreSeatChanged : Book → WholeBus → ℕ → History → ℕ → List Change → List Outcome → History → Type 0
AreSeatChanged book opening number seen made changes outcomes now = (last : ℕ) (held : Option History) →
    AreChanged false (knowledge_of book opening (seat_at number seen made last held)) changes outcomes (having_made (knowledge_of book opening (seat_at number seen made last held)) (length changes) now)

-- At the end of what was seen there is no monitor, and a read may find the bus there.
pub record IsUnwatched (k : Knowledge) : Type 0 where
  pub read : IsRead false k k
  pub none : list_any is_monitor (bus_seen k).state.connections ≡ false
