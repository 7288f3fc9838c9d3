-- What each change does to the state of the bus, and what it is told.
-- (D-Bus Specification: "Message Bus Messages", "Message Bus Starting Services (Activation)".)
use Rattle.std.specs.Prelude.{ℕ, ◌+◌, ◌-◌, ◌*◌, ◌/◌, nat_le, nat_lt, Bool, true, false, ◌&&◌, ◌||◌, not, ◌==◌, Option, Some, None, is_some, option_map, option_and_then, List, [], ◌∷◌, ◌++◌, length, map, filter, flat_map, find, codes, if◌then◌else◌}
use Rattle.std.specs.List.{list_any, range_with_len}
use Rattle.std.specs.Option.{option_map_or}
use Rattle.names.specs.Texts.{Text, text_eq}
use Rattle.names.specs.BusName.{bus_text, is_bus, is_unique}
use Rattle.names.specs.UniqueName.{unique_text}
use Rattle.match_rules.specs.declared.kind.MessageKind.TheVariants.{Signal}
use Rattle.match_rules.specs.Facts.{Facts, bus_number, StringArgument}
use Rattle.match_rules.specs.Rules.{Rule}
use Rattle.match_rules.specs.OwnedRules.{count_of, is_rule_of, rules_without, without_first}
use Rattle.owner_queues.specs.Queues.{Queue, queue_head, without, requested, released}
use Rattle.owner_queues.specs.declared.request.RequestFlags.{RequestFlags}
use Rattle.owner_queues.specs.declared.reply.Reply.{Reply as QueueReply}
use Rattle.seq_bus_core.specs.BusState.{BusState, Connection, OwnedName, RunningStart, is_monitor, conn_of, connection_of, client_of, queue_of, kept_name, with_queue, head_of, is_service, start_of, max_connections, max_names, max_queued, max_names_of_one, max_rules, max_rules_of_one, max_tickets, max_number, queued_in, names_of, tickets_in}
use Rattle.seq_bus_core.specs.Recipients.{conn_at, all_that_want, monitors_shown}
use Rattle.seq_bus_core.specs.declared.change.Change.{Change}
use Rattle.seq_bus_core.specs.declared.change.Change.TheVariants.{Hello, Leave, Request, Release, AddMatch, RemoveMatch, BecomeMonitor, Start, Hold, ChildEnded, StartTimedOut}
use Rattle.seq_bus_core.specs.declared.change.Ending.{Ending}
use Rattle.seq_bus_core.specs.declared.change.Ending.TheVariants.{Exit, Killed, NotRun}
use Rattle.seq_bus_core.specs.declared.connection.Conn.{Conn}
use Rattle.seq_bus_core.specs.declared.outcome.NumberedOutcome.{NumberedOutcome}
use Rattle.seq_bus_core.specs.declared.outcome.Reply.{Reply}
use Rattle.seq_bus_core.specs.declared.outcome.Reply.TheVariants.{Gone, LimitsExceeded, Done, Welcome, OfQueue, InvalidName, RuleNotFound, AccessDenied, AlreadyRunning, Held, ServiceUnknown, Pass, Ignored}
use Rattle.seq_bus_core.specs.declared.signal.BusSignal.{BusSignal}
use Rattle.seq_bus_core.specs.declared.signal.BusSignal.TheVariants.{NameOwnerChanged, NameLost, NameAcquired}
use Rattle.seq_bus_core.specs.declared.signal.AddressedSignal.{AddressedSignal}
use Rattle.seq_bus_core.specs.declared.ticket.Fate.{Fate}
use Rattle.seq_bus_core.specs.declared.ticket.Fate.TheVariants.{Served, Failed}
use Rattle.seq_bus_core.specs.declared.ticket.SettledNumber.{SettledNumber}

-- the state after a change, and what the change is told
abbrev pub Stepped : Type 0
Stepped = BusState × NumberedOutcome

-- ## Signals of the bus

-- an owner as signals have it: its unique name, or an empty text for none
abbrev pub owner_text : Option ℕ → Text
owner_text owner = option_map_or unique_text owner []

-- the object that the bus itself is
abbrev pub bus_path : Text
bus_path = codes "/org/freedesktop/DBus"

abbrev pub signal_facts : Text → Option ℕ → List Text → Facts
signal_facts member to arguments = record {
  kind = Signal;
  auto_start = true;
  sender = bus_number;
  path = Some bus_path;
  interface = Some bus_text;
  member = Some member;
  destination = option_map unique_text to;
  arguments = map StringArgument arguments;
}

-- what match rules see of a signal of the bus
abbrev pub facts_of : BusSignal → Facts
facts_of (NameOwnerChanged name old new) = signal_facts (codes "NameOwnerChanged") None (name ∷ owner_text old ∷ owner_text new ∷ [])
facts_of (NameLost name owner) = signal_facts (codes "NameLost") (Some owner) (name ∷ [])
facts_of (NameAcquired name owner) = signal_facts (codes "NameAcquired") (Some owner) (name ∷ [])

-- NameLost and NameAcquired go to the connection that they concern, NameOwnerChanged to all that want it.
abbrev pub recipients_of : BusState → BusSignal → List Conn
recipients_of s (NameOwnerChanged name old new) = all_that_want s (facts_of (NameOwnerChanged name old new))
recipients_of s (NameLost name owner) = conn_at s (Some owner)
recipients_of s (NameAcquired name owner) = conn_at s (Some owner)

abbrev pub is_among : List Conn → Conn → Bool
is_among conns conn = list_any (λ c. c.number == conn.number) conns

-- The signal in the state after the change. A monitor that it goes to is not shown it once more.
abbrev pub addressed : BusState → BusSignal → AddressedSignal
addressed s signal = record {
  signal = signal;
  to = recipients_of s signal;
  monitors = filter (λ m. not (is_among (recipients_of s signal) m)) (monitors_shown s (facts_of signal));
}

abbrev pub lost : Text → Option ℕ → List BusSignal
lost name None = []
lost name (Some owner) = NameLost name owner ∷ []

abbrev pub acquired : Text → Option ℕ → List BusSignal
acquired name None = []
acquired name (Some owner) = NameAcquired name owner ∷ []

abbrev pub is_owner : Option ℕ → Option ℕ → Bool
is_owner None None = true
is_owner None (Some n) = false
is_owner (Some m) None = false
is_owner (Some m) (Some n) = m == n

-- the signals of a name that goes from one owner to another
abbrev pub owner_signals : Text → Option ℕ → Option ℕ → List BusSignal
owner_signals name old new = if is_owner old new then [] else lost name old ++ NameOwnerChanged name old new ∷ acquired name new

-- ## Outcomes

-- nothing else than a reply
abbrev pub replied : Reply → NumberedOutcome
replied reply = record { reply = reply; signals = []; tickets = []; start = None }

abbrev pub unchanged : BusState → Reply → Stepped
unchanged s reply = (s, replied reply)

-- the state after a change, the reply and the signals
abbrev pub announced : BusState → Reply → List BusSignal → Stepped
announced s reply signals = (s, record (replied reply) { signals = map (addressed s) signals })

-- tickets that wait no longer
abbrev pub settled : Fate → Option RunningStart → List SettledNumber
settled fate start = option_map_or (λ r. map (λ number. record { fate = fate; number = number }) r.tickets) start []

-- ## Hello

-- the slots of a router, as many for each
abbrev pub slots_of_router : BusState → ℕ → List ℕ
slots_of_router s router = range_with_len ((router - 1) * (max_connections / s.routers)) (max_connections / s.routers)

-- the slots of the connections that a seat makes; seat 0 is no router's, and makes none
abbrev pub slots_of : BusState → ℕ → List ℕ
slots_of s seat = if nat_le 1 seat && nat_le seat s.routers then slots_of_router s seat else []

abbrev pub is_taken : BusState → ℕ → Bool
is_taken s slot = list_any (λ c. c.slot == slot) s.connections

abbrev pub free_slot : BusState → ℕ → Option ℕ
free_slot s seat = find (λ slot. not (is_taken s slot)) (slots_of s seat)

abbrev pub with_connection : BusState → Connection → BusState
with_connection s c = record s { connections = s.connections ++ c ∷ []; next_number = s.next_number + 1 }

abbrev pub welcomed : BusState → Connection → Stepped
welcomed s c = announced (with_connection s c) (Welcome (conn_of c)) (owner_signals (unique_text c.number) None (Some c.number))

abbrev pub hello : BusState → ℕ → Bool → Option ℕ → Stepped
hello s seat privileged None = unchanged s LimitsExceeded
hello s seat privileged (Some slot) =
    if nat_lt max_number s.next_number then unchanged s LimitsExceeded
    else welcomed s (record { number = s.next_number; router = seat; slot = slot; privileged = privileged; monitor = None })

-- ## Leave

-- the names, once a connection stands in no queue
abbrev pub names_without : ℕ → List OwnedName → List OwnedName
names_without connection names = flat_map (λ n. kept_name n.name (without connection n.queue)) names

-- the names that a connection owns
abbrev pub names_owned : ℕ → List OwnedName → List OwnedName
names_owned connection names = filter (λ n. is_owner (queue_head n.queue) (Some connection)) names

-- who owns the name once a connection stands in its queue no longer
abbrev pub next_owner : ℕ → OwnedName → Option ℕ
next_owner connection n = queue_head (without connection n.queue)

abbrev pub without_connection : BusState → ℕ → BusState
without_connection s number = record s {
  connections = filter (λ c. not (c.number == number)) s.connections;
  names = names_without number s.names;
  rules = rules_without number s.rules;
}

-- A connection that left is told nothing.
abbrev pub signals_of_leave : BusState → ℕ → List BusSignal
signals_of_leave s number =
    flat_map (λ n. NameOwnerChanged n.name (Some number) (next_owner number n) ∷ acquired n.name (next_owner number n)) (names_owned number s.names)
    ++ NameOwnerChanged (unique_text number) (Some number) None ∷ []

abbrev pub leave : BusState → ℕ → Option Connection → Stepped
leave s number None = unchanged s Gone
leave s number (Some c) = announced (without_connection s number) Done (if is_monitor c then [] else signals_of_leave s number)

-- ## RequestName and ReleaseName

-- the names of the bus itself and of the connections, which nobody requests or releases
abbrev pub is_reserved : Text → Bool
is_reserved name = is_bus name || is_unique name

-- the state once a name has an owner, and so no start of it runs any longer
abbrev pub with_owned : BusState → Text → Queue → BusState
with_owned s name queue = record s { names = with_queue name queue s.names; starts = filter (λ r. not (text_eq r.name name)) s.starts }

abbrev pub is_within_names : BusState → ℕ → Bool
is_within_names s number = nat_le (length s.names) max_names && nat_le (queued_in s.names) max_queued && nat_le (names_of number s.names) max_names_of_one

abbrev pub owned_outcome : BusState → BusState → Text → Queue × QueueReply → NumberedOutcome
owned_outcome s after name result = record {
  reply = OfQueue result.1;
  signals = map (addressed after) (owner_signals name (queue_head (queue_of s.names name)) (queue_head result.0));
  tickets = settled Served (start_of s name);
  start = None;
}

-- the request by the queue after it
abbrev pub request_with_queue : BusState → ℕ → Text → Queue × QueueReply → Stepped
request_with_queue s number name result =
    if is_within_names (with_owned s name result.0) number then (with_owned s name result.0, owned_outcome s (with_owned s name result.0) name result)
    else unchanged s LimitsExceeded

abbrev pub request : BusState → ℕ → Text → RequestFlags → Stepped
request s number name flags =
    if is_reserved name then unchanged s InvalidName
    else request_with_queue s number name (requested s.profile number flags (queue_of s.names name))

abbrev pub release_with_queue : BusState → Text → Queue × QueueReply → Stepped
release_with_queue s name result =
    announced (record s { names = with_queue name result.0 s.names }) (OfQueue result.1) (owner_signals name (queue_head (queue_of s.names name)) (queue_head result.0))

abbrev pub release : BusState → ℕ → Text → Stepped
release s number name =
    if is_reserved name then unchanged s InvalidName
    else release_with_queue s name (released number (queue_of s.names name))

-- ## AddMatch and RemoveMatch

abbrev pub is_within_rules : BusState → ℕ → Bool
is_within_rules s number = nat_le (length s.rules) max_rules && nat_le (count_of number s.rules) max_rules_of_one

abbrev pub with_rule : BusState → ℕ → Rule → BusState
with_rule s number rule = record s { rules = s.rules ++ record { connection = number; rule = rule } ∷ [] }

abbrev pub add_match : BusState → ℕ → Rule → Stepped
add_match s number rule =
    if is_within_rules (with_rule s number rule) number then announced (with_rule s number rule) Done []
    else unchanged s LimitsExceeded

abbrev pub remove_match : BusState → ℕ → Rule → Stepped
remove_match s number rule =
    if list_any (is_rule_of number rule) s.rules then announced (record s { rules = without_first (is_rule_of number rule) s.rules }) Done []
    else unchanged s RuleNotFound

-- ## BecomeMonitor

abbrev pub monitor_if : ℕ → List Rule → Connection → Connection
monitor_if number rules c = if c.number == number then record c { monitor = Some rules } else c

abbrev pub with_monitor : BusState → ℕ → List Rule → BusState
with_monitor s number rules = record s {
  connections = map (monitor_if number rules) s.connections;
  names = names_without number s.names;
  rules = rules_without number s.rules;
}

-- A monitor gives up its names, its unique name last.
abbrev pub signals_of_monitor : BusState → ℕ → List BusSignal
signals_of_monitor s number =
    flat_map (λ n. owner_signals n.name (Some number) (next_owner number n)) (names_owned number s.names)
    ++ owner_signals (unique_text number) (Some number) None

abbrev pub become_monitor : BusState → Connection → List Rule → Stepped
become_monitor s c rules =
    if c.privileged then announced (with_monitor s c.number rules) Done (signals_of_monitor s c.number)
    else unchanged s AccessDenied

-- ## Starts of services

abbrev pub waiting_if : Text → ℕ → RunningStart → RunningStart
waiting_if name ticket r = if text_eq r.name name then record r { tickets = r.tickets ++ ticket ∷ [] } else r

-- The first ticket of a name asks for a start; later ones join it.
abbrev pub wait_with_start : BusState → Text → Option RunningStart → Stepped
wait_with_start s name None = (
  record s {
    starts = s.starts ++ record { name = name; number = s.next_start; tickets = s.next_ticket ∷ [] } ∷ [];
    next_ticket = s.next_ticket + 1;
    next_start = s.next_start + 1;
  },
  record (replied (Held s.next_ticket)) { start = Some s.next_start },
)
wait_with_start s name (Some r) = (record s { starts = map (waiting_if name s.next_ticket) s.starts; next_ticket = s.next_ticket + 1 }, replied (Held s.next_ticket))

-- one ticket more, and one start more where none of the name runs
abbrev pub has_room_for_ticket : BusState → Text → Bool
has_room_for_ticket s name =
    nat_lt (tickets_in s.starts) max_tickets && nat_le s.next_ticket max_number
    && (is_some (start_of s name) || nat_le s.next_start max_number)

-- a call to a name that has no owner: its service is started, if it has one
abbrev pub wait_for : BusState → Text → Stepped
wait_for s name =
    if not (is_service s name) then unchanged s ServiceUnknown
    else if not (has_room_for_ticket s name) then unchanged s LimitsExceeded
    else wait_with_start s name (start_of s name)

abbrev pub start : BusState → Text → Stepped
start s name = if is_bus name || is_some (head_of s name) then unchanged s AlreadyRunning else wait_for s name

-- A call passes where the name has got an owner by now, and waits where it has none.
abbrev pub pass_or_wait : BusState → Text → Option Connection → Stepped
pass_or_wait s name None = wait_for s name
pass_or_wait s name (Some owner) = unchanged s (Pass (conn_of owner))

abbrev pub hold : BusState → Text → Stepped
hold s name = pass_or_wait s name (option_and_then (connection_of s) (head_of s name))

abbrev pub is_run : Text → ℕ → RunningStart → Bool
is_run name number r = text_eq r.name name && (r.number == number)

abbrev pub fail_with_start : BusState → Text → ℕ → Option RunningStart → Stepped
fail_with_start s name number None = unchanged s Ignored
fail_with_start s name number (Some r) = (record s { starts = filter (λ q. not (is_run name number q)) s.starts }, record (replied Done) { tickets = settled Failed (Some r) })

abbrev pub fail : BusState → Text → ℕ → Stepped
fail s name number = fail_with_start s name number (find (is_run name number) s.starts)

-- A program that exits well may have started a service that takes the name later.
abbrev pub exited_well : Ending → Bool
exited_well (Exit status) = status == 0
exited_well Killed = false
exited_well NotRun = false

-- ## The step

-- A change of a connection that is not there, or is a monitor, changes nothing.
abbrev pub for_client : BusState → Option Connection → (Connection → Stepped) → Stepped
for_client s None act = unchanged s Gone
for_client s (Some c) act = act c

-- the change that this seat makes: the state after it, and what it is told
abbrev pub step : BusState → ℕ → Change → Stepped
step s seat (Hello privileged) = hello s seat privileged (free_slot s seat)
step s seat (Leave number) = leave s number (connection_of s number)
step s seat (Request number name flags) = for_client s (client_of s number) (λ c. request s number name flags)
step s seat (Release number name) = for_client s (client_of s number) (λ c. release s number name)
step s seat (AddMatch number rule) = for_client s (client_of s number) (λ c. add_match s number rule)
step s seat (RemoveMatch number rule) = for_client s (client_of s number) (λ c. remove_match s number rule)
step s seat (BecomeMonitor number rules) = for_client s (client_of s number) (λ c. become_monitor s c rules)
step s seat (Start number name call) = for_client s (client_of s number) (λ c. start s name)
step s seat (Hold number name call message) = for_client s (client_of s number) (λ c. hold s name)
step s seat (ChildEnded name number how) = if exited_well how then unchanged s Ignored else fail s name number
step s seat (StartTimedOut name number) = fail s name number
