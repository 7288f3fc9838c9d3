-- The queue of a name after a request or a release. (D-Bus Specification: "org.freedesktop.DBus.RequestName",
-- "org.freedesktop.DBus.ReleaseName")
use Rattle.std.specs.Prelude.{ℕ, not, List, map, Result, Ok, Err, if◌then◌else◌}
use Rattle.names.specs.Texts.{Text}
use Rattle.owner_queues.specs.Queues.{Queue, queue_head, requested, released}
use Rattle.owner_queues.specs.declared.reply.Reply.{Reply as QueueReply}
use Rattle.owner_queues.specs.declared.request.RequestFlags.{RequestFlags}
use Rattle.seq_bus_core.specs.BusState.{BusState, is_client, queue_of, start_of, with_queue}
use Rattle.seq_bus_core.specs.Steps.{addressed, is_reserved, owner_signals, replied, settled, with_owned}
use Rattle.seq_bus_core.specs.declared.outcome.NumberedOutcome.{NumberedOutcome}
use Rattle.seq_bus_core.specs.declared.outcome.Reply.{Reply}
use Rattle.seq_bus_core.specs.declared.outcome.Reply.TheVariants.{Gone, LimitsExceeded, InvalidName, OfQueue}
use Rattle.seq_bus_core.specs.declared.signal.AddressedSignal.{AddressedSignal}
use Rattle.seq_bus_core.specs.declared.ticket.Fate.TheVariants.{Served}
use Rattle.registry_core.specs.NameTables.{are_within}

-- the state once a name has this queue
abbrev pub requeued : BusState → Text → Queue → BusState
requeued s name queue = record s { names = with_queue name queue s.names }

-- the signals of a name that has another queue
abbrev pub signals_of_owners : BusState → Text → Queue → List AddressedSignal
signals_of_owners s name queue = map (addressed (requeued s name queue)) (owner_signals name (queue_head (queue_of s.names name)) (queue_head queue))

-- the queue with the reply, where the change is made
abbrev pub changed : Queue → Result QueueReply Reply → Result (Queue × QueueReply) Reply
changed queue (Ok reply) = Ok (queue, reply)
changed queue (Err reply) = Err reply

abbrev pub if_within : BusState → ℕ → Text → Queue × QueueReply → Result (Queue × QueueReply) Reply
if_within s number name change = if are_within (with_queue name change.0 s.names) number then Ok change else Err LimitsExceeded

-- what a request does to the queue, or what it is told where it changes nothing
abbrev pub when_requested : BusState → ℕ → Text → RequestFlags → Result (Queue × QueueReply) Reply
when_requested s number name flags =
    if not (is_client s.connections number) then Err Gone
    else if is_reserved name then Err InvalidName
    else if_within s number name (requested s.profile number flags (queue_of s.names name))

-- the same of a release
abbrev pub when_released : BusState → ℕ → Text → Result (Queue × QueueReply) Reply
when_released s number name =
    if not (is_client s.connections number) then Err Gone
    else if is_reserved name then Err InvalidName
    else Ok (released number (queue_of s.names name))

-- the state after a release
abbrev pub requeue_state : BusState → Text → Result (Queue × QueueReply) Reply → BusState
requeue_state s name (Ok change) = requeued s name change.0
requeue_state s name (Err reply) = s

-- what it is told
abbrev pub requeue_outcome : BusState → Text → Result (Queue × QueueReply) Reply → NumberedOutcome
requeue_outcome s name (Ok change) = record (replied (OfQueue change.1)) { signals = signals_of_owners s name change.0 }
requeue_outcome s name (Err reply) = replied reply

-- the state after a request
abbrev pub request_state : BusState → Text → Result (Queue × QueueReply) Reply → BusState
request_state s name (Ok change) = with_owned s name change.0
request_state s name (Err reply) = s

-- what it is told
abbrev pub request_outcome : BusState → Text → Result (Queue × QueueReply) Reply → NumberedOutcome
request_outcome s name (Ok change) = record (requeue_outcome s name (Ok change)) { tickets = settled Served (start_of s name) }
request_outcome s name (Err reply) = replied reply
