-- What a change does to the calls that a bus holds.
use Rattle.std.specs.Prelude.{◌≡◌, ℕ, ◌==◌, Option, Some, None, option_map, option_and_then, List, [], ◌∷◌, ◌++◌, length, map, if◌then◌else◌}
use Rattle.activation.specs.Holding.{Holding, given_as, waiting_for, waiting_for_others}
use Rattle.activation.specs.declared.given.Given.{Given}
use Rattle.seq_bus_core.specs.BusState.{conn_of, connection_of}
use Rattle.seq_bus_core.specs.Steps.{step}
use Rattle.seq_bus_core.specs.Tickets.{WholeBus, bus_step}
use Rattle.seq_bus_core.specs.declared.change.Change.{Change}
use Rattle.seq_bus_core.specs.declared.change.Change.TheVariants.{Request, Start, Hold, ChildEnded, StartTimedOut}
use Rattle.seq_bus_core.specs.declared.connection.Conn.{Conn}
use Rattle.seq_bus_core.specs.declared.outcome.NumberedOutcome.{NumberedOutcome}
use Rattle.seq_bus_core.specs.declared.outcome.Outcome.{Outcome}
use Rattle.seq_bus_core.specs.declared.outcome.Reply.{Reply}
use Rattle.seq_bus_core.specs.declared.outcome.Reply.TheVariants.{Held}
use Rattle.seq_bus_core.specs.declared.ticket.Fate.TheVariants.{Served, Failed}
use Rattle.seq_bus_core.specs.declared.ticket.SettledNumber.{SettledNumber}
use Rattle.seq_bus_core.specs.declared.ticket.SettledTicket.{SettledTicket}
use Rattle.seq_bus_core.specs.declared.ticket.Ticket.{Ticket}
use Rattle.activation.specs.Holdings.{Calls, IsHolding}

-- ## What a caller knows

-- the connection that the change may make wait
abbrev pub caller_of : Change → Option ℕ
caller_of (Start c name call) = Some c
caller_of (Hold c name call message) = Some c
caller_of change = None

-- The bus that holds these calls is at a step: a seat makes this change, which is told this, and is
-- this caller's.
pub record IsAtStep (b : WholeBus) (seat : ℕ) (change : Change) (caller : Option Conn) (told : NumberedOutcome) (calls : Calls) : Type 0 where
  pub holding : IsHolding b calls
  pub called : caller ≡ option_map conn_of (option_and_then (connection_of b.state) (caller_of change))
  pub stepped : told ≡ (step b.state seat change).1

-- some bus that holds these calls is at this step
abbrev pub IsSomeStep : Change → Option Conn → NumberedOutcome → Calls → Type 0
IsSomeStep change caller told calls = (b : WholeBus) × ((seat : ℕ) × IsAtStep b seat change caller told calls)

-- Whatever bus holds the calls before the change and is at this step holds those after it, and the
-- change is told just this.
abbrev pub IsSettled : Change → Option Conn → NumberedOutcome → Calls → Calls → Outcome → Type 0
IsSettled change caller told before after outcome = (b : WholeBus) (seat : ℕ) → IsAtStep b seat change caller told before →
    IsHolding (bus_step b seat change).0 after × (outcome ≡ (bus_step b seat change).1)

-- ## What is done

-- what the change lets go where it settles tickets: those that wait for the name that it is about
abbrev pub let_go : Change → Calls → Holding Ticket
let_go (Request c name flags) calls = record { held = waiting_for_others name calls; given = given_as Served (waiting_for name calls) }
let_go (ChildEnded name number how) calls = record { held = waiting_for_others name calls; given = given_as Failed (waiting_for name calls) }
let_go (StartTimedOut name number) calls = record { held = waiting_for_others name calls; given = given_as Failed (waiting_for name calls) }
let_go change calls = record { held = calls; given = [] }

-- the calls that are left, and those that are let go, where the change is told these tickets
abbrev pub once_told : Change → List SettledNumber → Calls → Holding Ticket
once_told change numbers calls = if length numbers == 0 then record { held = calls; given = [] } else let_go change calls

-- the call that waits from now on, where the change is told so
abbrev pub new_call : Change → Reply → Option Conn → Calls
new_call (Start c name call) (Held number) (Some caller) = record { name = name; what = record { number = number; caller = caller; call = call; message = None } } ∷ []
new_call (Hold c name call message) (Held number) (Some caller) = record { name = name; what = record { number = number; caller = caller; call = call; message = Some message } } ∷ []
new_call change reply caller = []

abbrev pub calls_after : Change → Option Conn → NumberedOutcome → Calls → Calls
calls_after change caller told calls = (once_told change told.tickets calls).held ++ new_call change told.reply caller

-- a call that is let go, as a settled ticket
abbrev pub settled_as : Given Ticket → SettledTicket
settled_as g = record { fate = g.fate; ticket = g.what }

abbrev pub told_whole : Change → NumberedOutcome → Calls → Outcome
told_whole change told calls = record { reply = told.reply; signals = told.signals; tickets = map settled_as (once_told change told.tickets calls).given; start = told.start }
