-- What settles a change.
use Rattle.std.specs.Prelude.{◌≡◌, ℕ, Option}
use Rattle.activation.specs.Holdings.{Calls, IsHolding}
use Rattle.activation.specs.Rooms.{CallRoom, IsRoomFor}
use Rattle.registry.specs.PreparedChanges.{PreparedChange, caller_in, prepared_on}
use Rattle.seq_bus_core.specs.BusState.{BusState}
use Rattle.seq_bus_core.specs.Steps.{step}
use Rattle.seq_bus_core.specs.Tickets.{WholeBus, bus_step}
use Rattle.seq_bus_core.specs.declared.change.Change.{Change}
use Rattle.seq_bus_core.specs.declared.connection.Conn.{Conn}
use Rattle.seq_bus_core.specs.declared.outcome.NumberedOutcome.{NumberedOutcome}
use Rattle.seq_bus_core.specs.declared.outcome.Outcome.{Outcome}

-- what a change is told, the connection whose call it is, and the memory that settling it takes
pub record Settling : Type 0 where
  pub outcome : NumberedOutcome
  pub caller : Option Conn
  pub room : CallRoom

-- it settles the change of a seat that is made in this state
pub record SettlesAt (s : BusState) (seat : ℕ) (change : Change) (settling : Settling) : Type 0 where
  pub outcome : settling.outcome ≡ (step s seat change).1
  pub called : settling.caller ≡ caller_in s change
  pub room : IsRoomFor change settling.outcome settling.room

-- it settles the change wherever this was prepared for it
abbrev pub Settles : PreparedChange → Change → Settling → Type 0
Settles prepared change settling = (s : BusState) (seat : ℕ) → prepared ≡ prepared_on s seat change → SettlesAt s seat change settling

-- some bus holds these calls, and it settles the change there
abbrev pub IsSomeBus : Change → Settling → Calls → Type 0
IsSomeBus change settling calls = (b : WholeBus) × ((seat : ℕ) × (IsHolding b calls × SettlesAt b.state seat change settling))

-- Whatever bus holds the calls before the change, and has it settled by this, holds those after it; and the change is told what
-- that bus says.
abbrev pub IsSettled : Change → Settling → Calls → Calls → Outcome → Type 0
IsSettled change settling before after outcome = (b : WholeBus) (seat : ℕ) → IsHolding b before → SettlesAt b.state seat change settling →
    IsHolding (bus_step b seat change).0 after × (outcome ≡ (bus_step b seat change).1)
