-- Calls that wait for a name to get an owner, by their replies.
-- (D-Bus Specification: "Message Bus Starting Services (Activation)")
use Rattle.std.specs.Prelude.{ℕ, Bool, false, ◌||◌, ◌==◌, not, Option, Some, None, is_some, option_map, option_and_then, if◌then◌else◌}
use Rattle.names.specs.Texts.{Text}
use Rattle.names.specs.BusName.{is_bus}
use Rattle.seq_bus_core.specs.BusState.{BusState, conn_of, connection_of, head_of, is_client, is_service, start_of}
use Rattle.seq_bus_core.specs.Steps.{has_room_for_ticket, replied, wait_with_start}
use Rattle.seq_bus_core.specs.declared.connection.Conn.{Conn}
use Rattle.seq_bus_core.specs.declared.outcome.NumberedOutcome.{NumberedOutcome}
use Rattle.seq_bus_core.specs.declared.outcome.Reply.{Reply}
use Rattle.seq_bus_core.specs.declared.outcome.Reply.TheVariants.{Gone, LimitsExceeded, AlreadyRunning, Held, ServiceUnknown, Pass}

-- the number of the start of a name that runs
abbrev pub number_of_start : BusState → Text → Option ℕ
number_of_start s name = option_map (λ r. r.number) (start_of s name)

abbrev pub has_number : ℕ → Option ℕ → Bool
has_number number None = false
has_number number (Some running) = running == number

-- whether the start of a name runs that has this number
abbrev pub is_running : BusState → Text → ℕ → Bool
is_running s name number = has_number number (number_of_start s name)

-- ## What a call is told

abbrev pub reply_to_wait : BusState → Text → Reply
reply_to_wait s name =
    if not (is_service s name) then ServiceUnknown
    else if has_room_for_ticket s name then Held s.next_ticket
    else LimitsExceeded

abbrev pub reply_to_start : BusState → ℕ → Text → Reply
reply_to_start s number name =
    if not (is_client s.connections number) then Gone
    else if is_bus name || is_some (head_of s name) then AlreadyRunning
    else reply_to_wait s name

abbrev pub reply_where_owned : BusState → Text → Option Conn → Reply
reply_where_owned s name None = reply_to_wait s name
reply_where_owned s name (Some owner) = Pass owner

abbrev pub reply_to_hold : BusState → ℕ → Text → Reply
reply_to_hold s number name =
    if not (is_client s.connections number) then Gone
    else reply_where_owned s name (option_map conn_of (option_and_then (connection_of s) (head_of s name)))

-- the next start, if none of the name runs
abbrev pub new_start : BusState → Option ℕ → Option ℕ
new_start s None = Some s.next_start
new_start s (Some running) = None

-- which start a call asks for that has this reply
abbrev pub start_asked : BusState → Text → Reply → Option ℕ
start_asked s name (Held ticket) = new_start s (number_of_start s name)
start_asked s name reply = None

abbrev pub told_to_wait : BusState → Text → Reply → NumberedOutcome
told_to_wait s name reply = record (replied reply) { start = start_asked s name reply }

-- ## What it does

-- the state once one more call waits for a name
abbrev pub waited : BusState → Text → BusState
waited s name = (wait_with_start s name (start_of s name)).0

abbrev pub state_told : BusState → Text → Reply → BusState
state_told s name (Held ticket) = waited s name
state_told s name reply = s
