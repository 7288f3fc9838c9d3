-- The bus with what its tickets carry.
use Rattle.std.specs.Prelude.{ℕ, not, ◌==◌, Option, Some, None, option_map, List, [], ◌∷◌, ◌++◌, filter, filter_map, find}
use Rattle.std.specs.List.{list_any}
use Rattle.names.specs.Texts.{Text}
use Rattle.owner_queues.specs.declared.request.Profile.{Profile}
use Rattle.seq_bus_core.specs.BusState.{BusState, Connection, conn_of, connection_of}
use Rattle.seq_bus_core.specs.Steps.{Stepped, step}
use Rattle.seq_bus_core.specs.Histories.{History, opening}
use Rattle.seq_bus_core.specs.declared.change.Change.{Change}
use Rattle.seq_bus_core.specs.declared.change.Change.TheVariants.{Start, Hold}
use Rattle.seq_bus_core.specs.declared.change.CallHead.{CallHead}
use Rattle.seq_bus_core.specs.declared.outcome.NumberedOutcome.{NumberedOutcome}
use Rattle.seq_bus_core.specs.declared.outcome.Outcome.{Outcome}
use Rattle.seq_bus_core.specs.declared.outcome.Reply.{Reply}
use Rattle.seq_bus_core.specs.declared.outcome.Reply.TheVariants.{Held}
use Rattle.seq_bus_core.specs.declared.ticket.SettledNumber.{SettledNumber}
use Rattle.seq_bus_core.specs.declared.ticket.SettledTicket.{SettledTicket}
use Rattle.seq_bus_core.specs.declared.ticket.Ticket.{Ticket}

-- the state, and the tickets that wait, in order of arrival
pub record WholeBus : Type 0 where
  pub state : BusState
  pub waiting : List Ticket

abbrev pub opening_bus : Profile → ℕ → List Text → WholeBus
opening_bus profile routers services = record { state = opening profile routers services; waiting = [] }

abbrev pub ticket_from : ℕ → CallHead → Option (List ℕ) → Option Connection → List Ticket
ticket_from number call message None = []
ticket_from number call message (Some caller) = record { number = number; caller = conn_of caller; call = call; message = message } ∷ []

-- the ticket that a change makes, where it is told so
abbrev pub new_ticket : BusState → Change → Reply → List Ticket
new_ticket s (Start c name call) (Held number) = ticket_from number call None (connection_of s c)
new_ticket s (Hold c name call message) (Held number) = ticket_from number call (Some message) (connection_of s c)
new_ticket s change reply = []

-- settled tickets with what they carry
abbrev pub settled_tickets : List Ticket → List SettledNumber → List SettledTicket
settled_tickets waiting numbers = filter_map (λ n. option_map (λ t. record { fate = n.fate; ticket = t }) (find (λ t. t.number == n.number) waiting)) numbers

abbrev pub still_waiting : List SettledNumber → List Ticket → List Ticket
still_waiting numbers waiting = filter (λ t. not (list_any (λ n. n.number == t.number) numbers)) waiting

abbrev pub outcome_of : List Ticket → NumberedOutcome → Outcome
outcome_of waiting o = record { reply = o.reply; signals = o.signals; tickets = settled_tickets waiting o.tickets; start = o.start }

abbrev pub bus_stepped : WholeBus → Change → Stepped → WholeBus × Outcome
bus_stepped b change r = (
  record { state = r.0; waiting = still_waiting r.1.tickets b.waiting ++ new_ticket b.state change r.1.reply },
  outcome_of b.waiting r.1,
)

-- the change that this seat makes: the bus after it, and what it is told
abbrev pub bus_step : WholeBus → ℕ → Change → WholeBus × Outcome
bus_step b seat change = bus_stepped b change (step b.state seat change)

-- the bus after the changes of a history
abbrev pub bus_after : WholeBus → History → WholeBus
bus_after b [] = b
bus_after b (e ∷ history) = bus_after (bus_step b e.seat e.change).0 history
