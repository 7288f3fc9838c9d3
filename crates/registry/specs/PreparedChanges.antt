-- Changes that are prepared: what their steps look at, and what they are told.
use Rattle.std.specs.Prelude.{◌≡◌, ℕ, Option, option_and_then, option_map, List, [], ◌∷◌}
use Rattle.activation.specs.Settling.{caller_of}
use Rattle.seq_bus_core.specs.BusState.{BusState, conn_of, connection_of}
use Rattle.seq_bus_core.specs.Changes.{as_seen}
use Rattle.seq_bus_core.specs.Steps.{step}
use Rattle.seq_bus_core.specs.declared.change.Change.{Change}
use Rattle.seq_bus_core.specs.declared.connection.Conn.{Conn}
use Rattle.seq_bus_core.specs.declared.outcome.NumberedOutcome.{NumberedOutcome}

-- a change that a seat makes, what it was told where it was prepared, and where its caller was reached there
pub record PreparedChange : Type 0 where
  pub seat : ℕ
  pub change : Change
  pub outcome : NumberedOutcome
  pub caller : Option Conn

-- where the caller of a change is reached, if it is one that may have to wait
abbrev pub caller_in : BusState → Change → Option Conn
caller_in s change = option_map conn_of (option_and_then (connection_of s) (caller_of change))

-- the change of a seat, prepared on a state
abbrev pub prepared_on : BusState → ℕ → Change → PreparedChange
prepared_on s seat change = record { seat = seat; change = as_seen change; outcome = (step s seat change).1; caller = caller_in s change }

-- the changes of a seat, each prepared on the state that those before it leave
abbrev pub prepared_along : BusState → ℕ → List Change → List PreparedChange
prepared_along s seat [] = []
prepared_along s seat (change ∷ changes) = prepared_on s seat change ∷ prepared_along (step s seat change).0 seat changes

-- the state after the changes of a seat
abbrev pub state_along : BusState → ℕ → List Change → BusState
state_along s seat [] = s
state_along s seat (change ∷ changes) = state_along (step s seat change).0 seat changes

-- a change of a seat, as it is prepared, whatever it is told
pub record IsPreparedFor (seat : ℕ) (change : Change) (prepared : PreparedChange) : Type 0 where
  pub seat_is : prepared.seat ≡ seat
  pub change_is : prepared.change ≡ as_seen change

-- the changes of a seat, each as it is prepared, in order
abbrev pub ArePreparedFor : ℕ → List Change → List PreparedChange → Type 0
ArePreparedFor seat [] [] = Unit {0}
ArePreparedFor seat [] (p ∷ prepared) = ⊥
ArePreparedFor seat (change ∷ changes) [] = ⊥
ArePreparedFor seat (change ∷ changes) (p ∷ prepared) = IsPreparedFor seat change p × ArePreparedFor seat changes prepared

-- the state after prepared changes, in order
abbrev pub absorbed_along : BusState → List PreparedChange → BusState
absorbed_along s [] = s
absorbed_along s (p ∷ prepared) = absorbed_along (step s p.seat p.change).0 prepared
