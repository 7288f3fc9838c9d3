-- A bus that one thread uses: how it was opened, and every change that it has made since.
use Rattle.std.specs.Prelude.{◌≡◌, ◌+◌, List, [], ◌∷◌, ◌++◌, length}
use Rattle.std.specs.List.{AllByRecursion}
use Rattle.seq_bus.specs.declared.TheConstants.{SEAT}
use Rattle.seq_bus_core.specs.Batches.{entries_of, outcomes_of}
use Rattle.seq_bus_core.specs.BusState.{BusState}
use Rattle.seq_bus_core.specs.Consistency.{IsWithinLimits}
use Rattle.seq_bus_core.specs.Histories.{History, IsLegal, entry_alone}
use Rattle.seq_bus_core.specs.Tickets.{WholeBus, bus_step, bus_after}
use Rattle.seq_bus_core.specs.declared.change.Change.{Change}
use Rattle.seq_bus_core.specs.declared.entry.Entry.{Entry}
use Rattle.seq_bus_core.specs.declared.outcome.Outcome.{Outcome}
use Rattle.activation.specs.Holdings.{Calls, IsHolding}
use Rattle.registry.specs.Openings.{as_opened}

pub record PlainBus : Type 0 where
  pub opening : WholeBus
  pub seen : History

-- the bus as it is now
abbrev pub bus_now : PlainBus → WholeBus
bus_now bus = bus_after bus.opening bus.seen

-- the entry of the next change: its one seat makes them all, each a publication of its own
abbrev pub next_entry : PlainBus → Change → Entry
next_entry bus change = entry_alone SEAT (length bus.seen + 1) change

-- A change was made: it was told what the step of the bus says, and stands in the history.
pub record IsMade (before after : PlainBus) (change : Change) (outcome : Outcome) : Type 0 where
  pub told : outcome ≡ (bus_step (bus_now before) SEAT change).1
  pub published : after ≡ record before { seen = before.seen ++ next_entry before change ∷ [] }

-- The changes of a batch were made: each was told what the step of the bus says once those before it were made, and they stand
-- together in the history.
pub record AreMade (before after : PlainBus) (changes : List Change) (outcomes : List Outcome) : Type 0 where
  pub told : outcomes ≡ outcomes_of (bus_now before) SEAT changes
  pub published : after ≡ record before { seen = before.seen ++ entries_of SEAT (length before.seen + 1) changes }

-- the bus as it was opened: with its profile, its routers and its services, and nothing else
abbrev pub opened_as : BusState → WholeBus
opened_as s = record { state = as_opened s; waiting = [] }

-- the entries of a bus with one seat: a legal history of its changes
pub record AreOwnEntries (history : History) : Type 0 where
  pub seats : AllByRecursion (λ e. e.seat ≡ SEAT) history
  pub legal : IsLegal history

-- What is kept of a bus: the state after its history, in a registry, the calls that it holds, and its history.
pub record IsKept (registry : BusState) (calls : Calls) (history : History) : Type 0 where
  pub now : (bus_after (opened_as registry) history).state ≡ registry
  pub within_limits : IsWithinLimits registry
  pub holding : IsHolding (bus_after (opened_as registry) history) calls
  pub own : AreOwnEntries history
