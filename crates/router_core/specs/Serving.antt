-- What is done for a message of a connection that has its name. (D-Bus Specification: "Message Bus Message Routing",
-- "Message Bus Messages")
use Rattle.std.specs.Prelude.{ℕ, Bool, true, false, bit_and, ◌==◌, Option, Some, None, Result, Ok, Err, List, [], ◌∷◌, if◌then◌else◌}
use Rattle.names.specs.Texts.{Text}
use Rattle.names.specs.UniqueName.{unique_text}
use Rattle.match_rules.specs.declared.kind.MessageKind.{MessageKind}
use Rattle.match_rules.specs.declared.kind.MessageKind.TheVariants.{Unknown}
use Rattle.match_rules.specs.Kinds.{kind_of}
use Rattle.match_rules.specs.Rules.{Rule}
use Rattle.owner_queues.specs.Replies.{code_of}
use Rattle.seq_bus_core.specs.Answers.{Answer}
use Rattle.seq_bus_core.specs.Recipients.{is_call}
use Rattle.seq_bus_core.specs.declared.change.Change.{Change}
use Rattle.seq_bus_core.specs.declared.change.Change.TheVariants as change
use Rattle.seq_bus_core.specs.declared.change.CallHead.{CallHead}
use Rattle.seq_bus_core.specs.declared.connection.Conn.{Conn}
use Rattle.seq_bus_core.specs.declared.error_kind.ErrorKind.{ErrorKind}
use Rattle.seq_bus_core.specs.declared.error_kind.ErrorKind.TheVariants as error
use Rattle.seq_bus_core.specs.declared.outcome.Outcome.{Outcome}
use Rattle.seq_bus_core.specs.declared.outcome.Reply.{Reply}
use Rattle.seq_bus_core.specs.declared.outcome.Reply.TheVariants as reply
use Rattle.seq_bus_core.specs.declared.query.Query.{Query}
use Rattle.seq_bus_core.specs.declared.query.Query.TheVariants as query
use Rattle.seq_bus_core.specs.declared.ticket.SettledTicket.{SettledTicket}
use Rattle.seq_bus_core.specs.declared.ticket.Ticket.{Ticket}
use Rattle.seq_bus_core.specs.declared.verdict.Verdict.{Verdict}
use Rattle.seq_bus_core.specs.declared.verdict.VerdictKind.{VerdictKind}
use Rattle.seq_bus_core.specs.declared.verdict.VerdictKind.TheVariants as verdict
use Rattle.message_core.specs.declared.header.TheConstants.{NO_REPLY_EXPECTED}
use Rattle.message_core.specs.declared.header_field.HeaderField.TheVariants as field
use Rattle.message_core.specs.HeaderFields.{text_field}
use Rattle.message_core.specs.Messages.{Message}
use Rattle.message.specs.FactsOf.{facts_of}
use Rattle.message.specs.MessageBytes.{message_bytes, is_too_long}
use Rattle.message.specs.Senders.{sent_by}
use Rattle.driver.specs.declared.call.Call.{Call}
use Rattle.driver.specs.declared.call.Call.TheVariants as call
use Rattle.driver.specs.Answered.{ReplyTo}
use Rattle.driver.specs.Calls.{Reading, expects_reply, error_of}
use Rattle.outbox_core.specs.Contents.{Own, Replies, Errs, Carried, Nothing, Number, Answered, Relays, Tells, bus_message}
use Rattle.outbox_core.specs.Deliveries.{deliveries_of}
use Rattle.router_core.specs.declared.cause.CloseCause.{CloseCause}
use Rattle.router_core.specs.declared.cause.CloseCause.TheVariants.{TooLong, Left}
use Rattle.router_core.specs.declared.fate.PeerFate.{PeerFate}
use Rattle.router_core.specs.declared.fate.PeerFate.TheVariants as fate
use Rattle.router_core.specs.Answers.{Heard, Says, Refuses, error_for}
use Rattle.router_core.specs.Deeds.{Puts, Runs}
use Rattle.router_core.specs.Scripts.{Script, Gives, Changing, Asking, Routing, Calling, Gating, Wanting, Doing, Announcing, and_then, putting}

-- a script that only does things
abbrev pub Work : Type 0
Work = Script (Unit {0})

-- what becomes of the connection once its message was served
abbrev pub OfFate : Type 0
OfFate = Script PeerFate

abbrev pub nothing : Work
nothing = Gives tt

abbrev pub staying_open : OfFate
staying_open = Gives fate.Stays

-- the bus closes the connection
abbrev pub closing_for : CloseCause → OfFate
closing_for cause = Gives (fate.Closes cause)

-- a piece of work, after which the connection stays open
abbrev pub staying_after : Work → OfFate
staying_after work = and_then work (λ done. staying_open)

-- ## Messages of the bus

abbrev pub monitors_in : Heard Verdict → List Conn
monitors_in (Says v) = v.monitors
monitors_in (Refuses refusal) = []

-- to a connection, and to the monitors that are shown it
abbrev pub telling : Conn → Own → Work
telling conn own = Routing 0 (facts_of (bus_message 1 own)) (λ heard. putting (deliveries_of (conn ∷ []) (monitors_in heard)) (Tells own) nothing)

abbrev pub call_of : Message → Conn → ReplyTo
call_of m caller = record { caller = Some caller.number; call = m.serial }

-- A call that wants no reply gets none, and no error.
abbrev pub replying : Message → Conn → Carried → Work
replying m caller carried = if expects_reply m then telling caller (Replies (call_of m caller) carried) else nothing

abbrev pub erring : Message → Conn → ErrorKind → Work
erring m caller error = if expects_reply m then telling caller (Errs (call_of m caller) error) else nothing

abbrev pub is_method_call : Message → Bool
is_method_call m = is_call (kind_of m.kind)

-- A call is answered an error; another message is dropped.
abbrev pub erring_if_call : Message → Conn → ErrorKind → Work
erring_if_call m caller error = if is_method_call m then erring m caller error else nothing

-- ## Tickets

abbrev pub ticket_wants_reply : Ticket → Bool
ticket_wants_reply t = bit_and t.call.flags NO_REPLY_EXPECTED == 0

abbrev pub call_of_ticket : Ticket → ReplyTo
call_of_ticket t = record { caller = Some t.caller.number; call = t.call.serial }

-- StartServiceByName is answered 1: the service was started.
abbrev pub start_reply : Carried
start_reply = Number 1

-- Without memory the reply is dropped whole.
abbrev pub start_reply_if : Conn → ReplyTo → Bool → Work
start_reply_if caller call true = telling caller (Replies call start_reply)
start_reply_if caller call false = nothing

-- A call that waited is delivered to the owner of the name; StartServiceByName is answered.
abbrev pub releasing : Conn → Ticket → Option (List ℕ) → Work
releasing owner t (Some bytes) = putting (owner ∷ []) (Relays bytes) nothing
releasing owner t None = if ticket_wants_reply t then Wanting (λ granted. start_reply_if t.caller (call_of_ticket t) granted) else nothing

abbrev pub releasing_all : Conn → List SettledTicket → Work
releasing_all owner [] = nothing
releasing_all owner (t ∷ tickets) = and_then (releasing owner t.ticket t.ticket.message) (λ done. releasing_all owner tickets)

-- Without memory the error is dropped whole.
abbrev pub failing_if : ErrorKind → Conn → ReplyTo → Bool → Work
failing_if error caller call true = telling caller (Errs call error)
failing_if error caller call false = nothing

-- A call that waited is answered why the service did not come.
abbrev pub failing : ErrorKind → Ticket → Work
failing error t = if ticket_wants_reply t then Wanting (λ granted. failing_if error t.caller (call_of_ticket t) granted) else nothing

abbrev pub failing_all : ErrorKind → List SettledTicket → Work
failing_all error [] = nothing
failing_all error (t ∷ tickets) = and_then (failing error t.ticket) (λ done. failing_all error tickets)

-- ## Calls to the bus

-- what a call asks of the bus
pub data Request : Type 0 where
  Asks : Query → Request
  -- a change that is answered at once
  Makes : Change → Request
  -- that the service of this name runs
  Starts : Text → Request
  -- that the caller becomes a monitor with these rules
  Watches : List Rule → Request

-- what a call of the connection of this number asks, or the error that it is answered
abbrev pub request_of : ℕ → Call → Result Request ErrorKind
request_of number call.Hello = Err error.Failed
request_of number (call.RequestName name flags) = Ok (Makes (change.Request number name flags))
request_of number (call.ReleaseName name) = Ok (Makes (change.Release number name))
request_of number (call.GetNameOwner name) = Ok (Asks (query.GetNameOwner name))
request_of number (call.NameHasOwner name) = Ok (Asks (query.NameHasOwner name))
request_of number call.ListNames = Ok (Asks query.ListNames)
request_of number call.ListActivatableNames = Ok (Asks query.ListActivatableNames)
request_of number (call.ListQueuedOwners name) = Ok (Asks (query.ListQueuedOwners name))
request_of number (call.AddMatch rule) = Ok (Makes (change.AddMatch number rule))
request_of number (call.RemoveMatch rule) = Ok (Makes (change.RemoveMatch number rule))
request_of number (call.StartServiceByName name) = Ok (Starts name)
request_of number (call.BecomeMonitor rules) = Ok (Watches rules)

-- the answer to a call whose change was told so
abbrev pub answer_of_reply : Reply → Result Carried ErrorKind
answer_of_reply reply.Done = Ok Nothing
answer_of_reply (reply.OfQueue r) = Ok (Number (code_of r))
answer_of_reply reply.InvalidName = Err error.InvalidArgs
answer_of_reply reply.RuleNotFound = Err error.MatchRuleNotFound
answer_of_reply reply.LimitsExceeded = Err error.LimitsExceeded
answer_of_reply reply.ServiceUnknown = Err error.ServiceUnknown
answer_of_reply reply.AccessDenied = Err error.AccessDenied
answer_of_reply reply.AlreadyRunning = Ok (Number 2)
answer_of_reply reply.Gone = Err error.Failed
answer_of_reply (reply.Welcome conn) = Err error.Failed
answer_of_reply (reply.Held ticket) = Err error.Failed
answer_of_reply (reply.Pass owner) = Err error.Failed
answer_of_reply reply.Ignored = Err error.Failed

abbrev pub answering_with : Message → Conn → Result Carried ErrorKind → Work
answering_with m caller (Ok carried) = replying m caller carried
answering_with m caller (Err error) = erring m caller error

-- The signals come first, then the reply, then the calls that waited for the name.
abbrev pub telling_change : Message → Conn → Outcome → Work
telling_change m caller o = Announcing o.signals (and_then (answering_with m caller (answer_of_reply o.reply)) (λ done. releasing_all caller o.tickets))

-- A change of a connection that left in the meantime is made by nobody: the connection is closed.
abbrev pub after_change_by : Message → Conn → Outcome → Reply → OfFate
after_change_by m caller o reply.Gone = closing_for Left
after_change_by m caller o reply.Done = staying_after (telling_change m caller o)
after_change_by m caller o (reply.OfQueue r) = staying_after (telling_change m caller o)
after_change_by m caller o reply.InvalidName = staying_after (telling_change m caller o)
after_change_by m caller o reply.RuleNotFound = staying_after (telling_change m caller o)
after_change_by m caller o reply.LimitsExceeded = staying_after (telling_change m caller o)
-- these are no replies to such a change
after_change_by m caller o reply.ServiceUnknown = staying_after (telling_change m caller o)
after_change_by m caller o reply.AccessDenied = staying_after (telling_change m caller o)
after_change_by m caller o reply.AlreadyRunning = staying_after (telling_change m caller o)
after_change_by m caller o (reply.Welcome conn) = staying_after (telling_change m caller o)
after_change_by m caller o (reply.Held ticket) = staying_after (telling_change m caller o)
after_change_by m caller o (reply.Pass owner) = staying_after (telling_change m caller o)
after_change_by m caller o reply.Ignored = staying_after (telling_change m caller o)

abbrev pub after_change : Message → Conn → Heard Outcome → OfFate
after_change m caller (Refuses refusal) = staying_after (erring m caller (error_for refusal))
after_change m caller (Says o) = after_change_by m caller o o.reply

-- a start that is asked for
abbrev pub running : Text → Option ℕ → Work
running name None = nothing
running name (Some start) = Doing (Runs name start) nothing

-- what is needed to reply to a call that waits
abbrev pub waiting_call : Message → CallHead
waiting_call m = record { serial = m.serial; flags = m.flags }

-- A call that waits is answered once its service runs, or does not.
abbrev pub after_start_by : Message → Conn → Text → Outcome → Reply → OfFate
after_start_by m caller name o reply.Gone = closing_for Left
after_start_by m caller name o (reply.Held ticket) = staying_after (running name o.start)
after_start_by m caller name o reply.AlreadyRunning = staying_after (replying m caller (Number 2))
after_start_by m caller name o reply.ServiceUnknown = staying_after (erring m caller error.ServiceUnknown)
after_start_by m caller name o reply.LimitsExceeded = staying_after (erring m caller error.LimitsExceeded)
-- these are no replies to a start
after_start_by m caller name o reply.Done = staying_after (replying m caller Nothing)
after_start_by m caller name o (reply.OfQueue r) = staying_after (replying m caller (Number (code_of r)))
after_start_by m caller name o reply.InvalidName = staying_after (erring m caller error.InvalidArgs)
after_start_by m caller name o reply.RuleNotFound = staying_after (erring m caller error.MatchRuleNotFound)
after_start_by m caller name o reply.AccessDenied = staying_after (erring m caller error.AccessDenied)
after_start_by m caller name o (reply.Welcome conn) = staying_after (erring m caller error.Failed)
after_start_by m caller name o (reply.Pass owner) = staying_after (erring m caller error.Failed)
after_start_by m caller name o reply.Ignored = staying_after (erring m caller error.Failed)

abbrev pub after_start : Message → Conn → Text → Heard Outcome → OfFate
after_start m caller name (Refuses refusal) = staying_after (erring m caller (error_for refusal))
after_start m caller name (Says o) = after_start_by m caller name o o.reply

abbrev pub starting_if : Message → Conn → Text → Bool → OfFate
starting_if m caller name true = Changing (change.Start caller.number name (waiting_call m)) (λ heard. after_start m caller name heard)
starting_if m caller name false = staying_after (erring m caller error.NoMemory)

-- Whoever became a monitor is told so as one.
abbrev pub after_watch_by : Message → Conn → Outcome → Reply → OfFate
after_watch_by m caller o reply.Gone = closing_for Left
after_watch_by m caller o reply.Done = and_then (telling_change m caller o) (λ done. Gives fate.Watches)
after_watch_by m caller o reply.AccessDenied = staying_after (telling_change m caller o)
-- these are no replies to it
after_watch_by m caller o (reply.OfQueue r) = staying_after (telling_change m caller o)
after_watch_by m caller o reply.InvalidName = staying_after (telling_change m caller o)
after_watch_by m caller o reply.RuleNotFound = staying_after (telling_change m caller o)
after_watch_by m caller o reply.LimitsExceeded = staying_after (telling_change m caller o)
after_watch_by m caller o reply.ServiceUnknown = staying_after (telling_change m caller o)
after_watch_by m caller o reply.AlreadyRunning = staying_after (telling_change m caller o)
after_watch_by m caller o (reply.Welcome conn) = staying_after (telling_change m caller o)
after_watch_by m caller o (reply.Held ticket) = staying_after (telling_change m caller o)
after_watch_by m caller o (reply.Pass owner) = staying_after (telling_change m caller o)
after_watch_by m caller o reply.Ignored = staying_after (telling_change m caller o)

abbrev pub after_watch : Message → Conn → Heard Outcome → OfFate
after_watch m caller (Refuses refusal) = staying_after (erring m caller (error_for refusal))
after_watch m caller (Says o) = after_watch_by m caller o o.reply

abbrev pub watching_if : Message → Conn → List Rule → Bool → OfFate
watching_if m caller rules true = Changing (change.BecomeMonitor caller.number rules) (λ heard. after_watch m caller heard)
watching_if m caller rules false = staying_after (erring m caller error.NoMemory)

abbrev pub answering_if : Message → Conn → Answer → Bool → Work
answering_if m caller told true = replying m caller (Answered told)
answering_if m caller told false = erring m caller error.NoMemory

abbrev pub after_answer : Message → Conn → Heard (Option Answer) → Work
after_answer m caller (Refuses refusal) = erring m caller (error_for refusal)
after_answer m caller (Says None) = erring m caller error.NameHasNoOwner
after_answer m caller (Says (Some told)) = Wanting (λ granted. answering_if m caller told granted)

abbrev pub serving_request : Message → Conn → Result Request ErrorKind → OfFate
serving_request m caller (Err error) = staying_after (erring m caller error)
serving_request m caller (Ok (Asks q)) = Asking q (λ heard. staying_after (after_answer m caller heard))
serving_request m caller (Ok (Makes c)) = Changing c (λ heard. after_change m caller heard)
serving_request m caller (Ok (Starts name)) = Wanting (λ granted. starting_if m caller name granted)
serving_request m caller (Ok (Watches rules)) = Wanting (λ granted. watching_if m caller rules granted)

-- Each call that reads well is shown to the gate before it is served.
abbrev pub serving_reading : Message → Conn → Reading Call → OfFate
serving_reading m caller (Err fault) = staying_after (erring m caller (error_of fault))
serving_reading m caller (Ok c) = Gating c (serving_request m caller (request_of caller.number c))

abbrev pub serving_call_if : Message → Conn → Bool → OfFate
serving_call_if m caller true = Calling m (λ reading. serving_reading m caller reading)
serving_call_if m caller false = staying_after (erring m caller error.NoMemory)

abbrev pub serving_call : Message → Conn → OfFate
serving_call m caller = Wanting (λ granted. serving_call_if m caller granted)

-- Other messages to the bus are ignored.
abbrev pub serving_bus : Message → Conn → OfFate
serving_bus m caller = if is_method_call m then serving_call m caller else staying_open

-- ## Messages to others

-- the message with its sender's name
abbrev pub with_sender : Message → Conn → Message
with_sender m sender = sent_by (unique_text sender.number) m

-- Without memory the message is dropped whole, and a call is answered so.
abbrev pub putting_copies_if : Message → Conn → List Conn → OfFate → Bool → OfFate
putting_copies_if m sender to goes_on true = Doing (Puts to (Relays (message_bytes (with_sender m sender)))) goes_on
putting_copies_if m sender to goes_on false = staying_after (erring_if_call m sender error.NoMemory)

-- The message is put to these connections.
abbrev pub putting_copies : Message → Conn → List Conn → OfFate → OfFate
putting_copies m sender [] goes_on = goes_on
putting_copies m sender (conn ∷ conns) goes_on = Wanting (λ granted. putting_copies_if m sender (conn ∷ conns) goes_on granted)

-- Whoever sends a message that is too long once it has its sender's name is closed.
abbrev pub relaying_to : Message → Conn → List Conn → OfFate → OfFate
relaying_to m sender to goes_on = if is_too_long (with_sender m sender) then closing_for TooLong else putting_copies m sender to goes_on

-- A message to the bus is measured only where a monitor is shown it.
abbrev pub showing : Message → Conn → List Conn → OfFate → OfFate
showing m sender [] goes_on = goes_on
showing m sender (conn ∷ conns) goes_on = relaying_to m sender (conn ∷ conns) goes_on

-- ## Calls that wait for a service

-- By now the name has an owner, to which the call goes, or the call waits; or there is no service.
abbrev pub after_hold_by : Message → Conn → Text → Outcome → Reply → OfFate
after_hold_by m caller name o reply.Gone = closing_for Left
after_hold_by m caller name o (reply.Pass owner) = Doing (Puts (owner ∷ []) (Relays (message_bytes (with_sender m caller)))) staying_open
after_hold_by m caller name o (reply.Held ticket) = staying_after (running name o.start)
after_hold_by m caller name o reply.ServiceUnknown = staying_after (erring m caller error.ServiceUnknown)
after_hold_by m caller name o reply.LimitsExceeded = staying_after (erring m caller error.LimitsExceeded)
-- these are no replies to a call that is to wait
after_hold_by m caller name o reply.Done = staying_open
after_hold_by m caller name o (reply.OfQueue r) = staying_open
after_hold_by m caller name o reply.InvalidName = staying_open
after_hold_by m caller name o reply.RuleNotFound = staying_open
after_hold_by m caller name o reply.AccessDenied = staying_open
after_hold_by m caller name o reply.AlreadyRunning = staying_open
after_hold_by m caller name o (reply.Welcome conn) = staying_open
after_hold_by m caller name o reply.Ignored = staying_open

abbrev pub after_hold : Message → Conn → Text → Heard Outcome → OfFate
after_hold m caller name (Refuses refusal) = staying_after (erring m caller (error_for refusal))
after_hold m caller name (Says o) = after_hold_by m caller name o o.reply

abbrev pub holding_if : Message → Conn → Text → Bool → OfFate
holding_if m caller name true =
    Changing (change.Hold caller.number name (waiting_call m) (message_bytes (with_sender m caller))) (λ heard. after_hold m caller name heard)
holding_if m caller name false = staying_after (erring m caller error.NoMemory)

abbrev pub holding : Message → Conn → Option Text → OfFate
holding m caller None = staying_open
holding m caller (Some name) = Wanting (λ granted. holding_if m caller name granted)

-- ## Where the message goes

abbrev pub relaying : Message → Conn → Verdict → VerdictKind → OfFate
relaying m sender v verdict.Absent = closing_for Left
relaying m sender v verdict.Bus = showing m sender v.monitors (serving_bus m sender)
relaying m sender v verdict.Plain = relaying_to m sender (deliveries_of v.to v.monitors) staying_open
relaying m sender v verdict.Nobody = relaying_to m sender v.monitors (staying_after (erring_if_call m sender error.ServiceUnknown))
relaying m sender v verdict.Start = relaying_to m sender v.monitors (holding m sender (text_field field.Destination m.fields))

abbrev pub routing : Message → Conn → Heard Verdict → OfFate
routing m sender (Refuses refusal) = staying_after (erring_if_call m sender (error_for refusal))
routing m sender (Says v) = relaying m sender v v.kind

-- a type that the standard does not define
abbrev pub is_unknown : MessageKind → Bool
is_unknown (Unknown number) = true
is_unknown other = false

-- A message of a type that the standard does not define is dropped.
abbrev pub serving : Message → Conn → OfFate
serving m sender =
    if is_unknown (kind_of m.kind) then staying_open
    else Routing sender.number (facts_of m) (λ heard. routing m sender heard)
