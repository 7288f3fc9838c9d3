-- What is done at an event. (D-Bus Specification: "Message Bus Messages", "org.freedesktop.DBus.Hello")
use Rattle.std.specs.Prelude.{◌≡◌, ◌≤◌, ℕ, Bool, true, false, Option, Some, None, is_some, option_map, List, [], ◌∷◌, ◌++◌, length, map, ◌==◌, position, if◌then◌else◌}
use Rattle.seq_bus_core.specs.Batches.{max_batch}
use Rattle.seq_bus_core.specs.Histories.{History}
use Rattle.names.specs.Texts.{Text}
use Rattle.seq_bus_core.specs.declared.change.Change.{Change}
use Rattle.seq_bus_core.specs.declared.change.Change.TheVariants.{Hello, Leave, ChildEnded, StartTimedOut}
use Rattle.seq_bus_core.specs.declared.change.Ending.{Ending}
use Rattle.seq_bus_core.specs.declared.change.Ending.TheVariants as ending
use Rattle.seq_bus_core.specs.declared.connection.Conn.{Conn}
use Rattle.seq_bus_core.specs.declared.error_kind.ErrorKind.{ErrorKind}
use Rattle.seq_bus_core.specs.declared.error_kind.ErrorKind.TheVariants as error
use Rattle.seq_bus_core.specs.declared.outcome.Outcome.{Outcome}
use Rattle.seq_bus_core.specs.declared.outcome.Reply.{Reply}
use Rattle.seq_bus_core.specs.declared.outcome.Reply.TheVariants as reply
use Rattle.seq_bus_core.specs.declared.verdict.Verdict.{Verdict}
use Rattle.sasl.specs.declared.identity.Identity.{Identity}
use Rattle.sasl.specs.declared.identity.Identity.TheVariants.{User, Anonymous}
use Rattle.sasl.specs.declared.fault.AuthenticationFault.TheVariants.{NoMemory as NoMemoryForLines}
use Rattle.sasl.specs.declared.phase.Phase.{Phase}
use Rattle.sasl.specs.declared.phase.Phase.TheVariants as phase
use Rattle.sasl.specs.Settings.{Login, Setting}
use Rattle.sasl.specs.Hearing.{Conversed, conversed}
use Rattle.message_core.specs.Messages.{Message}
use Rattle.message_core.specs.Said.{said as message_said}
use Rattle.message.specs.FactsOf.{facts_of}
use Rattle.driver.specs.declared.call.Call.TheVariants as call
use Rattle.driver.specs.Calls.{expects_reply, is_hello}
use Rattle.outbox_core.specs.Contents.{Said, Relays, Tells, Own, Errs, UniqueName, bus_message, said_of}
use Rattle.router_core.specs.declared.cause.CloseCause.{CloseCause}
use Rattle.router_core.specs.declared.cause.CloseCause.TheVariants as cause
use Rattle.router_core.specs.declared.fate.PeerFate.{PeerFate}
use Rattle.router_core.specs.declared.fate.PeerFate.TheVariants as fate
use Rattle.router_core.specs.declared.event.Event.{Event}
use Rattle.router_core.specs.declared.event.Event.TheVariants as event
use Rattle.router_core.specs.declared.joint.Joint.{Joint}
use Rattle.router_core.specs.declared.joint.RuleCall.{RuleCall}
use Rattle.router_core.specs.declared.start_end.StartEnd.{StartEnd}
use Rattle.router_core.specs.declared.start_end.HowEnded.{HowEnded}
use Rattle.router_core.specs.declared.start_end.HowEnded.TheVariants as how
use Rattle.router_core.specs.Answers.{Heard, Says, Refuses, error_for, is_final}
use Rattle.router_core.specs.Deeds.{Writes, Sends, Closes}
use Rattle.router_core.specs.Incoming.{Incoming, Waits, Whole, Faulty}
use Rattle.router_core.specs.Scripts.{Script, Gives, Changing, ChangingAll, Routing, AskingPresence, Noting, Framing, Calling, Gating, Wanting, Requiring, Doing, Announcing, and_then, putting}
use Rattle.router_core.specs.Serving.{Work, OfFate, nothing, monitors_in, replying, after_change, failing_all, serving}
use Rattle.router_core.specs.Together.{Joining, Joins, Parts, change_of_joint, joining, may_join, rule_call}
use Rattle.router_core.specs.Standing.{Stage, Authenticating, Unnamed, Named, Closing, Peer, Standing, peer_at, with_peer, without_peer, with_newcomer, conn_of, next_serial, closing_peer, has_slot, is_conn}

-- what happens, in the terms of the definitions; a note is there by the history that it tells
pub data Occasion : Type 0 where
  -- with a challenge, if it is to say who it is
  Opened : (key : ℕ) → (challenge : Option (List ℕ)) → Occasion
  Bytes : (key : ℕ) → (piece : List ℕ) → Occasion
  Next : (key : ℕ) → Occasion
  -- the next messages of several keys, of each as many as it stands there
  Turn : (keys : List ℕ) → Occasion
  Mail : (slot number : ℕ) → (note : Option History) → Said → Occasion
  Closed : (key : ℕ) → Occasion
  -- a recipient could not be reached
  Full : (number : ℕ) → Occasion
  -- a start of a service ended
  Child : StartEnd → Occasion
  Tick : Occasion

-- a script that leaves a connection so
abbrev pub OfPeer : Type 0
OfPeer = Script Peer

abbrev pub Stands : Type 0
Stands = Script Standing

-- ## One connection

abbrev pub closing : ℕ → CloseCause → Peer → OfPeer
closing key cause p = Doing (Closes key cause) (Gives (closing_peer p))

-- what becomes of it once a message of it was served
abbrev pub after_serving : ℕ → PeerFate → Peer → OfPeer
after_serving key fate.Stays p = Gives p
after_serving key fate.Watches p = Gives (record p { watches = true })
after_serving key (fate.Closes cause) p = closing key cause p

-- a message of the bus, numbered and written
abbrev pub sending : ℕ → Own → Peer → OfPeer
sending key own p = Doing (Sends key (bus_message (next_serial p.serial) own)) (Gives (record p { serial = next_serial p.serial }))

abbrev pub writing : ℕ → Said → Peer → OfPeer
writing key (Relays bytes) p = Doing (Writes key bytes) (Gives p)
writing key (Tells own) p = sending key own p

-- what is done for a connection, if it is there
abbrev pub for_entry : Option Peer → (Peer → OfPeer) → Script (Option Peer)
for_entry None work = Gives None
for_entry (Some p) work = and_then (work p) (λ q. Gives (Some q))

abbrev pub for_peer : Standing → ℕ → Option Peer → (Peer → OfPeer) → Stands
for_peer s key peer work = and_then (for_entry peer work) (λ q. Gives (with_peer s key q))

-- bytes behind those that it sent; none once it was closed
abbrev pub with_bytes : List ℕ → Peer → Stage → Peer
with_bytes piece p (Closing conn) = p
with_bytes piece p stage = record p { unread = p.unread ++ piece }

-- ## Authentication

-- whoever knows the cookie is the bus's own user
abbrev pub is_user : Identity → Bool
is_user User = true
is_user Anonymous = false

-- what is said in answer is written
abbrev pub answering : ℕ → List ℕ → OfPeer → OfPeer
answering key [] s = s
answering key (b ∷ bytes) s = Doing (Writes key (b ∷ bytes)) s

-- The conversation is done, and the bytes behind it are the first of its messages; or it has failed; or it goes on.
abbrev pub after_conversing : ℕ → Setting → Conversed → Phase → Peer → OfPeer
after_conversing key setting said (phase.Done identity) p = Gives (record p { stage = Unnamed (is_user identity); unread = said.left })
after_conversing key setting said (phase.Closed fault) p = closing key (cause.Unauthenticated fault) p
after_conversing key setting said going p = Gives (record p { stage = Authenticating setting said.state; unread = said.left })

-- Without memory for its lines the connection is closed.
abbrev pub conversing_if : ℕ → Setting → Conversed → Peer → Bool → OfPeer
conversing_if key setting said p true = answering key said.sent (after_conversing key setting said said.state.phase p)
conversing_if key setting said p false = closing key (cause.Unauthenticated NoMemoryForLines) p

-- Bytes of a connection come. While it says who it is, each line that is whole by them is answered.
abbrev pub hearing : ℕ → List ℕ → Peer → Stage → OfPeer
hearing key piece p (Authenticating setting state) = Wanting (λ granted. conversing_if key setting (conversed setting state [] (p.unread ++ piece)) p granted)
hearing key piece p stage = Gives (with_bytes piece p stage)

-- ## Hello

-- The error in place of the reply is written to the connection, which has no name yet, and put to the monitors.
abbrev pub refusing_routed : ℕ → Own → Peer → Heard Verdict → OfPeer
refusing_routed key own p heard = and_then (sending key own p) (λ q. putting (monitors_in heard) (Tells own) (Gives q))

abbrev pub refusing_hello : ℕ → Message → ErrorKind → Peer → OfPeer
refusing_hello key m error p =
    if expects_reply m then Routing 0 (facts_of (bus_message 1 (Errs (record { caller = None; call = m.serial }) error))) (λ heard. refusing_routed key (Errs (record { caller = None; call = m.serial }) error) p heard)
    else Gives p

abbrev pub closing_at : Standing → ℕ → Option Peer → Stands
closing_at s key peer = for_peer s key peer (λ p. closing key cause.Left p)

abbrev pub closing_if_found : Standing → Option ℕ → Stands
closing_if_found s None = Gives s
closing_if_found s (Some key) = closing_at s key (peer_at s key)

-- Whoever had the slot before has left, though its connection is not gone yet: it is closed.
abbrev pub closing_former : Standing → Conn → Stands
closing_former s conn = closing_if_found s (position (has_slot conn.slot) s.peers)

-- The connection has its name: the reply comes first, then the signals.
abbrev pub greeting : ℕ → Message → Peer → Outcome → Conn → Standing → Stands
greeting key m p o conn s =
    and_then (replying m conn (UniqueName conn.number))
    (λ done. Announcing o.signals (Gives (with_peer s key (Some (record p { stage = Named conn })))))

abbrev pub dismissal : ℕ → Message → Peer → OfPeer
dismissal key m p = and_then (refusing_hello key m error.LimitsExceeded p) (λ q. closing key cause.LimitsExceeded q)

abbrev pub after_hello_by : Standing → ℕ → Message → Peer → Outcome → Reply → Stands
after_hello_by s key m p o (reply.Welcome conn) = and_then (closing_former s conn) (λ t. greeting key m p o conn t)
after_hello_by s key m p o reply.LimitsExceeded = for_peer s key (Some p) (dismissal key m)
-- these are no replies to a Hello
after_hello_by s key m p o reply.Gone = for_peer s key (Some p) (dismissal key m)
after_hello_by s key m p o reply.Done = for_peer s key (Some p) (dismissal key m)
after_hello_by s key m p o (reply.OfQueue r) = for_peer s key (Some p) (dismissal key m)
after_hello_by s key m p o reply.InvalidName = for_peer s key (Some p) (dismissal key m)
after_hello_by s key m p o reply.RuleNotFound = for_peer s key (Some p) (dismissal key m)
after_hello_by s key m p o reply.AccessDenied = for_peer s key (Some p) (dismissal key m)
after_hello_by s key m p o reply.AlreadyRunning = for_peer s key (Some p) (dismissal key m)
after_hello_by s key m p o (reply.Held ticket) = for_peer s key (Some p) (dismissal key m)
after_hello_by s key m p o reply.ServiceUnknown = for_peer s key (Some p) (dismissal key m)
after_hello_by s key m p o (reply.Pass owner) = for_peer s key (Some p) (dismissal key m)
after_hello_by s key m p o reply.Ignored = for_peer s key (Some p) (dismissal key m)

-- A Hello that is refused leaves the connection without a name: it may say Hello again.
abbrev pub after_hello : Standing → ℕ → Message → Peer → Heard Outcome → Stands
after_hello s key m p (Refuses refusal) = for_peer s key (Some p) (refusing_hello key m (error_for refusal))
after_hello s key m p (Says o) = after_hello_by s key m p o o.reply

abbrev pub serving_hello : Standing → ℕ → Message → Peer → Bool → Stands
serving_hello s key m p privileged = Gating call.Hello (Changing (Hello privileged) (λ heard. after_hello s key m p heard))

-- ## The next message

-- A monitor that sends is closed.
abbrev pub serving_named : Standing → ℕ → Message → Peer → Conn → (watches : Bool) → Stands
serving_named s key m p conn true = for_peer s key (Some p) (closing key cause.MonitorSent)
serving_named s key m p conn false = for_peer s key (Some p) (λ q. and_then (serving m conn) (λ fate. after_serving key fate q))

abbrev pub serving_at : Standing → ℕ → Message → Peer → Stage → Stands
serving_at s key m p (Authenticating setting state) = Gives s
serving_at s key m p (Unnamed privileged) = if is_hello m then serving_hello s key m p privileged else for_peer s key (Some p) (closing key cause.NotHello)
serving_at s key m p (Named conn) = serving_named s key m p conn p.watches
serving_at s key m p (Closing conn) = Gives s

abbrev pub serving_incoming : Standing → ℕ → Peer → Incoming → Stands
serving_incoming s key p Waits = Gives s
serving_incoming s key p (Faulty fault) = for_peer s key (Some p) (closing key (cause.Faulty fault))
serving_incoming s key p (Whole bytes rest) = serving_at s key (message_said bytes) (record p { unread = rest }) p.stage

abbrev pub next_at : Standing → ℕ → Peer → Stage → Stands
next_at s key p (Authenticating setting state) = Gives s
next_at s key p (Closing conn) = Gives s
next_at s key p stage = Framing p.unread (λ incoming. serving_incoming s key p incoming)

abbrev pub serving_next : Standing → ℕ → Option Peer → Stands
serving_next s key None = Gives s
serving_next s key (Some p) = next_at s key p p.stage

-- ## Several messages, one after the other

-- what is done for a message of the connection of a key, unless it was closed in the meantime
abbrev pub work_in : Standing → ℕ → Peer → Stage → OfFate → Stands
work_in s key p (Named conn) work = for_peer s key (Some p) (λ q. and_then work (λ fate. after_serving key fate q))
work_in s key p (Authenticating setting state) work = Gives s
work_in s key p (Unnamed privileged) work = Gives s
work_in s key p (Closing conn) work = Gives s

abbrev pub work_at : Standing → ℕ → Option Peer → OfFate → Stands
work_at s key None work = Gives s
work_at s key (Some p) work = work_in s key p p.stage work

abbrev pub work_for : Standing → ℕ → OfFate → Stands
work_for s key work = work_at s key (peer_at s key) work

-- the changes of calls that joined, each by itself
abbrev pub making_each : List Joint → Standing → Stands
making_each [] s = Gives s
making_each (j ∷ joints) s = and_then (work_for s j.key (Changing (change_of_joint j) (λ heard. after_change (message_said j.message) j.caller heard))) (λ t. making_each joints t)

-- They were made together. Each call is answered, in order.
abbrev pub answering_each : List Joint → List Outcome → Standing → Stands
answering_each [] outcomes s = Gives s
answering_each (j ∷ joints) [] s = Gives s
answering_each (j ∷ joints) (o ∷ outcomes) s = and_then (work_for s j.key (after_change (message_said j.message) j.caller (Says o))) (λ t. answering_each joints outcomes t)

-- What is refused together is asked for by itself.
abbrev pub after_changes : List Joint → Standing → Heard (List Outcome) → Stands
after_changes joints s (Says outcomes) = answering_each joints outcomes s
after_changes joints s (Refuses refusal) = making_each joints s

abbrev pub making_if : List Joint → Standing → Bool → Stands
making_if joints s true = ChangingAll (map change_of_joint joints) (λ heard. after_changes joints s heard)
making_if joints s false = making_each joints s

-- the changes of calls that joined, in one publication where they are several
abbrev pub making_all : List Joint → Standing → Stands
making_all [] s = Gives s
making_all (j ∷ []) s = making_each (j ∷ []) s
making_all (j ∷ k ∷ joints) s = Wanting (λ granted. making_if (j ∷ k ∷ joints) s granted)

-- the calls that joined, whose changes are not made yet
pub record Gathered : Type 0 where
  pub joints : List Joint
  pub standing : Standing
  -- whether there was a message, which joined or was served
  pub served : Bool

abbrev pub gathering_of_one : List Joint → Standing → Script Gathered
gathering_of_one joints s = Gives (record { joints = joints; standing = s; served = true })

-- There is no message.
abbrev pub gathering_of_none : List Joint → Standing → Script Gathered
gathering_of_none joints s = Gives (record { joints = joints; standing = s; served = false })

-- what is done for a message that does not join: the changes before it are made first
abbrev pub after_joints : List Joint → Standing → (Standing → Stands) → Script Gathered
after_joints joints s work = and_then (making_all joints s) (λ t. and_then (work t) (λ u. gathering_of_one [] u))

-- it is served as any message is
abbrev pub serving_apart : List Joint → Standing → ℕ → Script Gathered
serving_apart joints s key = after_joints joints s (λ t. serving_next t key (peer_at t key))

-- The call has come to this before its change.
abbrev pub after_joining : List Joint → Standing → Joint → Joining → Script Gathered
after_joining joints s j Joins = gathering_of_one (joints ++ j ∷ []) s
after_joining joints s j (Parts work) = after_joints joints s (λ t. work_for t j.key work)

abbrev pub joining_call : List Joint → Standing → ℕ → (message : List ℕ) → Peer → Conn → RuleCall → Script Gathered
joining_call joints s key message p conn c =
    and_then (joining (message_said message) conn c)
    (λ it. after_joining joints (with_peer s key (Some p)) (record { key = key; message = message; caller = conn; call = c }) it)

-- One that does not read well is served as any message is.
abbrev pub joining_reading : List Joint → Standing → ℕ → (message : List ℕ) → Peer → Conn → Option RuleCall → Script Gathered
joining_reading joints s key message p conn None = serving_apart joints s key
joining_reading joints s key message p conn (Some c) = joining_call joints s key message p conn c

-- Without memory to read it as a call it does not join.
abbrev pub joining_if : List Joint → Standing → ℕ → (message : List ℕ) → Peer → Conn → Bool → Script Gathered
joining_if joints s key message p conn true = Calling (message_said message) (λ reading. joining_reading joints s key message p conn (rule_call reading))
joining_if joints s key message p conn false = serving_apart joints s key

-- A monitor sends nothing.
abbrev pub gathering_message : List Joint → Standing → ℕ → (message : List ℕ) → Peer → Conn → (watches : Bool) → Script Gathered
gathering_message joints s key message p conn true = serving_apart joints s key
gathering_message joints s key message p conn false =
    if may_join (message_said message) then Wanting (λ granted. joining_if joints s key message p conn granted) else serving_apart joints s key

abbrev pub gathering_incoming : List Joint → Standing → ℕ → Peer → Conn → Incoming → Script Gathered
gathering_incoming joints s key p conn Waits = gathering_of_none joints s
gathering_incoming joints s key p conn (Faulty fault) = serving_apart joints s key
gathering_incoming joints s key p conn (Whole bytes rest) = gathering_message joints s key bytes (record p { unread = rest }) conn p.watches

abbrev pub serving_incoming_apart : List Joint → Standing → ℕ → Incoming → Script Gathered
serving_incoming_apart joints s key Waits = gathering_of_none joints s
serving_incoming_apart joints s key incoming = serving_apart joints s key

-- Only connections that have a name make changes.
abbrev pub gathering_at : List Joint → Standing → ℕ → Peer → Stage → Script Gathered
gathering_at joints s key p (Named conn) = Framing p.unread (λ incoming. gathering_incoming joints s key p conn incoming)
gathering_at joints s key p (Unnamed privileged) = Framing p.unread (λ incoming. serving_incoming_apart joints s key incoming)
gathering_at joints s key p (Authenticating setting state) = gathering_of_none joints s
gathering_at joints s key p (Closing conn) = gathering_of_none joints s

abbrev pub gathering : List Joint → Standing → ℕ → Option Peer → Script Gathered
gathering joints s key None = gathering_of_none joints s
gathering joints s key (Some p) = gathering_at joints s key p p.stage

-- Without memory the turn ends: neither this message is served nor any behind it.
abbrev pub turning_if : List Joint → Standing → (goes_on : Stands) → Bool → Stands
turning_if joints s goes_on true = goes_on
turning_if joints s goes_on false = making_all joints s

-- The next messages of these keys, each in its turn. Neighbouring calls that add and remove rules are routed first, then their changes are
-- made together, then they are answered. Memory is wanted between one message and the next: once a turn is not refused whole, its first
-- message is served.
abbrev pub turning : List Joint → List ℕ → (begun : Bool) → Standing → Stands
turning joints [] begun s = making_all joints s
turning joints (key ∷ keys) false s = and_then (gathering joints s key (peer_at s key)) (λ g. turning g.joints keys g.served g.standing)
turning joints (key ∷ keys) true s =
    Wanting (λ granted. turning_if joints s (and_then (gathering joints s key (peer_at s key)) (λ g. turning g.joints keys true g.standing)) granted)

-- ## Mail

abbrev pub mail_delivery : Standing → Said → Option ℕ → Stands
mail_delivery s said None = Gives s
mail_delivery s said (Some key) = for_peer s key (peer_at s key) (writing key said)

-- what came with a note is served once the note was taken
abbrev pub after_note : Option History → Stands → Stands
after_note None script = script
after_note (Some told) script = Noting told script

-- ## Leaves

-- A Leave that was refused is made later.
abbrev pub after_leave : Standing → ℕ → Heard Outcome → Stands
after_leave s number (Says o) = Announcing o.signals (Gives s)
after_leave s number (Refuses refusal) = Gives (record s { due_leaves = s.due_leaves ++ number ∷ [] })

abbrev pub leaving : Standing → ℕ → Stands
leaving s number = Changing (Leave number) (λ heard. after_leave s number heard)

abbrev pub leaving_of : Standing → Option Conn → Stands
leaving_of s None = Gives s
leaving_of s (Some conn) = leaving s conn.number

abbrev pub removing : Standing → ℕ → Option Peer → Stands
removing s key None = Gives s
removing s key (Some p) = leaving_of (without_peer s key) (conn_of p.stage)

-- ## Time

-- Leaves that were refused, in order, each by itself
abbrev pub leaving_each : List ℕ → Standing → Stands
leaving_each [] s = Gives s
leaving_each (number ∷ numbers) s = and_then (leaving s number) (λ t. leaving_each numbers t)

-- the signals of several changes, in order
abbrev pub announcing_all : List Outcome → Work
announcing_all [] = nothing
announcing_all (o ∷ outcomes) = Announcing o.signals (announcing_all outcomes)

-- What is refused together is asked for by itself.
abbrev pub after_leaves : Standing → List ℕ → Heard (List Outcome) → Stands
after_leaves s numbers (Says outcomes) = and_then (announcing_all outcomes) (λ done. Gives s)
after_leaves s numbers (Refuses refusal) = leaving_each numbers s

abbrev pub leaving_if : Standing → List ℕ → Bool → Stands
leaving_if s numbers true = ChangingAll (map Leave numbers) (λ heard. after_leaves s numbers heard)
leaving_if s numbers false = leaving_each numbers s

-- in one publication, if there are any
abbrev pub leaving_together : Standing → List ℕ → Stands
leaving_together s [] = Gives s
leaving_together s (number ∷ numbers) = Wanting (λ granted. leaving_if s (number ∷ numbers) granted)

-- Those that were gathered are made together once they are as many as may be, or there are no more.
abbrev pub leaving_by : (gathered numbers : List ℕ) → Standing → Stands
leaving_by gathered [] s = leaving_together s gathered
leaving_by gathered (number ∷ numbers) s =
    if length gathered == max_batch then and_then (leaving_together s gathered) (λ t. leaving_by (number ∷ []) numbers t)
    else leaving_by (gathered ++ number ∷ []) numbers s

-- in order, as many together as may be
abbrev pub leaving_all : List ℕ → Standing → Stands
leaving_all numbers s = leaving_by [] numbers s

abbrev pub after_check : ℕ → Peer → Heard Bool → OfPeer
after_check key p (Says false) = closing key cause.Left p
after_check key p (Says true) = Gives p
after_check key p (Refuses refusal) = Gives p

-- A connection that has left is closed.
abbrev pub checking_presence : ℕ → Peer → Stage → OfPeer
checking_presence key p (Named conn) = AskingPresence conn.number (λ heard. after_check key p heard)
checking_presence key p (Authenticating setting state) = Gives p
checking_presence key p (Unnamed privileged) = Gives p
checking_presence key p (Closing conn) = Gives p

-- by rising key; those so far are as they are then
abbrev pub checking_each : List (Option Peer) → List (Option Peer) → Script (List (Option Peer))
checking_each done [] = Gives done
checking_each done (peer ∷ peers) = and_then (for_entry peer (λ p. checking_presence (length done) p p.stage)) (λ q. checking_each (done ++ q ∷ []) peers)

abbrev pub checking_all : Standing → Stands
checking_all s = and_then (checking_each [] s.peers) (λ peers. Gives (record s { peers = peers }))

abbrev pub ticking : Standing → Stands
ticking s = and_then (leaving_all s.due_leaves (record s { due_leaves = [] })) checking_all

-- ## Starts that end

abbrev pub change_by : Text → (start : ℕ) → HowEnded → Change
change_by name start (how.Program ending) = ChildEnded name start ending
change_by name start how.TimedOut = StartTimedOut name start

-- the end of a start, as a change of the bus
abbrev pub change_of : StartEnd → Change
change_of e = change_by e.name e.start e.how

abbrev pub error_by : Ending → ErrorKind
error_by (ending.Exit status) = error.ChildExited
error_by ending.Killed = error.ChildSignaled
error_by ending.NotRun = error.ExecFailed

-- what the calls are answered that waited for the service
abbrev pub error_of_end : HowEnded → ErrorKind
error_of_end (how.Program ending) = error_by ending
error_of_end how.TimedOut = error.TimedOut

-- Without memory for the change the end is refused, and comes back. Where the bus is lost nothing is done.
abbrev pub after_end : Standing → HowEnded → Heard Outcome → Stands
after_end s how (Refuses refusal) = Requiring (is_final refusal) (Gives s)
after_end s how (Says o) = Announcing o.signals (and_then (failing_all (error_of_end how) o.tickets) (λ done. Gives s))

abbrev pub ending_child : Standing → StartEnd → Stands
ending_child s e = Changing (change_of e) (λ heard. after_end s e.how heard)

-- ## Events

abbrev pub script : Standing → Occasion → Stands
script s (Opened key challenge) = Gives (with_newcomer s key challenge)
script s (Bytes key piece) = for_peer s key (peer_at s key) (λ p. hearing key piece p p.stage)
script s (Next key) = serving_next s key (peer_at s key)
script s (Turn keys) = turning [] keys false s
script s (Mail slot number told said) = after_note told (mail_delivery s said (position (is_conn slot number) s.peers))
script s (Closed key) = removing s key (peer_at s key)
script s (Full number) = leaving s number
script s (Child e) = ending_child s e
script s Tick = ticking s

-- the event; `told` says which history a note tells
abbrev pub occasion_of : {N : Type 0} → (N → History) → Event N → Occasion
occasion_of told (event.Opened key challenge) = Opened key challenge
occasion_of told (event.Bytes key piece) = Bytes key piece.items
occasion_of told (event.Next key) = Next key
occasion_of told (event.Turn keys) = Turn keys.items
occasion_of told (event.Mail slot envelope) = Mail slot envelope.number (option_map told envelope.note) (said_of envelope.content)
occasion_of told (event.Closed key) = Closed key
occasion_of told (event.Full number) = Full number
occasion_of told (event.Child end) = Child end.value
occasion_of told event.Tick = Tick

-- ## What can happen

-- Whoever is challenged can log in.
abbrev pub CanBeAsked : Option Login → (challenge : Option (List ℕ)) → Type 0
CanBeAsked login None = Unit {0}
CanBeAsked login (Some challenge) = is_some login ≡ true

-- some keys, and not more than calls whose changes can be made together
abbrev pub IsTurnOf : List ℕ → Type 0
IsTurnOf keys = (1 ≤ length keys) × (length keys ≤ max_batch)
