-- Whose Hello is asked of the bus.
use Rattle.std.proofs.Common.{ℕ, Bool, true, false, Option, Some, None, Ok, Err, List, [], ◌∷◌, if◌then◌else◌, sym, subst}
use Rattle.std.specs.Prelude.{Result}
use Rattle.std.specs.List.{AllByRecursion}
use Rattle.match_rules.specs.declared.rule.Rule.{Rule}
use Rattle.names.specs.Texts.{Text}
use Rattle.seq_bus_core.specs.Answers.{Answer}
use Rattle.seq_bus_core.specs.declared.connection.Conn.{Conn}
use Rattle.seq_bus_core.specs.declared.error_kind.ErrorKind.{ErrorKind}
use Rattle.seq_bus_core.specs.declared.error_kind.ErrorKind.TheVariants as error
use Rattle.seq_bus_core.specs.declared.outcome.Outcome.{Outcome}
use Rattle.seq_bus_core.specs.declared.outcome.Reply.{Reply}
use Rattle.seq_bus_core.specs.declared.outcome.Reply.TheVariants as reply
use Rattle.seq_bus_core.specs.declared.ticket.SettledTicket.{SettledTicket}
use Rattle.seq_bus_core.specs.declared.ticket.Ticket.{Ticket}
use Rattle.seq_bus_core.specs.declared.verdict.Verdict.{Verdict}
use Rattle.seq_bus_core.specs.declared.verdict.VerdictKind.{VerdictKind}
use Rattle.seq_bus_core.specs.declared.verdict.VerdictKind.TheVariants as verdict
use Rattle.message_core.specs.declared.header_field.HeaderField.TheVariants as field
use Rattle.message_core.specs.HeaderFields.{text_field}
use Rattle.message_core.specs.Messages.{Message}
use Rattle.match_rules.specs.Kinds.{kind_of}
use Rattle.message.specs.FactsOf.{facts_of}
use Rattle.message.specs.MessageBytes.{is_too_long}
use Rattle.driver.specs.declared.call.Call.{Call}
use Rattle.driver.specs.declared.call.Call.TheVariants as call
use Rattle.driver.specs.Calls.{Reading, expects_reply, error_of}
use Rattle.outbox_core.specs.Contents.{Said, Own, Replies, Errs, Carried, Nothing, Number, Answered, Tells}
use Rattle.owner_queues.specs.Replies.{code_of}
use Rattle.outbox_core.specs.Deliveries.{deliveries_of}
use Rattle.router_core.specs.declared.fate.PeerFate.TheVariants as fate
use Rattle.router_core.specs.declared.joint.RuleCall.{RuleCall}
use Rattle.router_core.specs.Acts.{Exchange, Goes}
use Rattle.router_core.specs.Answers.{Heard, Says, Refuses, error_for}
use Rattle.router_core.specs.Deeds.{Deed}
use Rattle.router_core.specs.Incoming.{Incoming}
use Rattle.router_core.specs.Scripts.{Script, Gives, Changing, ChangingAll, Asking, Routing, AskingPresence, Noting, Framing, Calling, Gating, Wanting, Requiring, Doing, Announcing, and_then, putting}
use Rattle.router_core.specs.Serving as sv
use Rattle.router_core.specs.Serving.{OfFate, Work, Request, Asks as Queries, Makes, Starts, Watches}
use Rattle.router_core.specs.Together.{Joining, Joins, Parts, joining, joining_routed, joining_to, joining_shown, joining_relayed, joining_copied_if}
use Rattle.router_laws.specs.Logins.{AsksHellosOf, IsHelloOf}
use Rattle.router_laws.proofs.Results.{Always, by_test}

module _ (Such : Bool → Type 0) where
  -- Whatever is answered, each Hello that the script asks for is such.
  abbrev pub Asks : {X : Type 0} → Script X → Type 0
  Asks (Gives x) = Unit {0}
  Asks (Changing change goes_on) = IsHelloOf Such change × ((heard : Heard Outcome) → Asks (goes_on heard))
  Asks (ChangingAll changes goes_on) = AllByRecursion (IsHelloOf Such) changes × ((heard : Heard (List Outcome)) → Asks (goes_on heard))
  Asks (Asking query goes_on) = (heard : Heard (Option Answer)) → Asks (goes_on heard)
  Asks (Routing from facts goes_on) = (heard : Heard Verdict) → Asks (goes_on heard)
  Asks (AskingPresence number goes_on) = (heard : Heard Bool) → Asks (goes_on heard)
  Asks (Noting told s) = Asks s
  Asks (Framing bytes goes_on) = (incoming : Incoming) → Asks (goes_on incoming)
  Asks (Calling m goes_on) = (reading : Reading Call) → Asks (goes_on reading)
  Asks (Gating call s) = Asks s
  Asks (Wanting goes_on) = (granted : Bool) → Asks (goes_on granted)
  Asks (Requiring holds s) = Asks s
  Asks (Doing deed s) = Asks s
  Asks (Announcing signals s) = Asks s

  pub asked_so : {X : Type 0} (s : Script X) (asked : List Exchange) (deeds : List Deed) (x : X) → Goes s asked deeds x → Asks s → AsksHellosOf Such asked
  asked_so (Gives y) asked deeds x g a = subst (λ (l : List Exchange). AsksHellosOf Such l) (sym g.0) tt
  asked_so (Changing change goes_on) asked deeds x g a = subst (λ (l : List Exchange). AsksHellosOf Such l) (sym g.2) (a.0, asked_so (goes_on g.0) g.1 deeds x g.3 (a.1 g.0))
  asked_so (ChangingAll changes goes_on) asked deeds x g a = subst (λ (l : List Exchange). AsksHellosOf Such l) (sym g.2) (a.0, asked_so (goes_on g.0) g.1 deeds x g.3 (a.1 g.0))
  asked_so (Asking query goes_on) asked deeds x g a = subst (λ (l : List Exchange). AsksHellosOf Such l) (sym g.2) (asked_so (goes_on g.0) g.1 deeds x g.3 (a g.0))
  asked_so (Routing from facts goes_on) asked deeds x g a = subst (λ (l : List Exchange). AsksHellosOf Such l) (sym g.2) (asked_so (goes_on g.0) g.1 deeds x g.3 (a g.0))
  asked_so (AskingPresence number goes_on) asked deeds x g a = subst (λ (l : List Exchange). AsksHellosOf Such l) (sym g.2) (asked_so (goes_on g.0) g.1 deeds x g.3 (a g.0))
  asked_so (Noting told s) asked deeds x g a = subst (λ (l : List Exchange). AsksHellosOf Such l) (sym g.1) (asked_so s g.0 deeds x g.2 a)
  asked_so (Framing bytes goes_on) asked deeds x g a = subst (λ (l : List Exchange). AsksHellosOf Such l) (sym g.2) (asked_so (goes_on g.0) g.1 deeds x g.3 (a g.0))
  asked_so (Calling m goes_on) asked deeds x g a = subst (λ (l : List Exchange). AsksHellosOf Such l) (sym g.2) (asked_so (goes_on g.0) g.1 deeds x g.3 (a g.0))
  asked_so (Gating call s) asked deeds x g a = subst (λ (l : List Exchange). AsksHellosOf Such l) (sym g.2) (asked_so s g.1 deeds x g.3 a)
  asked_so (Wanting goes_on) asked deeds x g a = subst (λ (l : List Exchange). AsksHellosOf Such l) (sym g.2) (asked_so (goes_on g.0) g.1 deeds x g.3 (a g.0))
  asked_so (Requiring holds s) asked deeds x g a = asked_so s asked deeds x g.1 a
  asked_so (Doing deed s) asked deeds x g a = asked_so s asked g.0 x g.2 a
  asked_so (Announcing signals s) asked deeds x g a = asked_so s asked g.0 x g.2 a

  -- ## One after the other

  module _ {X Y : Type 0} (P : X → Type 0) (next : X → Script Y) (each : (x : X) → P x → Asks (next x)) where
    pub asks_then : (s : Script X) → Asks s → Always P s → Asks (and_then s next)
    asks_then (Gives x) a p = each x p
    asks_then (Changing change goes_on) a p = (a.0, λ heard. asks_then (goes_on heard) (a.1 heard) (p heard))
    asks_then (ChangingAll changes goes_on) a p = (a.0, λ heard. asks_then (goes_on heard) (a.1 heard) (p heard))
    asks_then (Asking query goes_on) a p = λ heard. asks_then (goes_on heard) (a heard) (p heard)
    asks_then (Routing from facts goes_on) a p = λ heard. asks_then (goes_on heard) (a heard) (p heard)
    asks_then (AskingPresence number goes_on) a p = λ heard. asks_then (goes_on heard) (a heard) (p heard)
    asks_then (Noting told s) a p = asks_then s a p
    asks_then (Framing bytes goes_on) a p = λ incoming. asks_then (goes_on incoming) (a incoming) (p incoming)
    asks_then (Calling m goes_on) a p = λ reading. asks_then (goes_on reading) (a reading) (p reading)
    asks_then (Gating call s) a p = asks_then s a p
    asks_then (Wanting goes_on) a p = λ granted. asks_then (goes_on granted) (a granted) (p granted)
    asks_then (Requiring holds s) a p = asks_then s a p
    asks_then (Doing deed s) a p = asks_then s a p
    asks_then (Announcing signals s) a p = asks_then s a p

  module _ {X Y : Type 0} (next : X → Script Y) (each : (x : X) → Asks (next x)) where
    pub asks_behind : (s : Script X) → Asks s → Asks (and_then s next)
    asks_behind (Gives x) a = each x
    asks_behind (Changing change goes_on) a = (a.0, λ heard. asks_behind (goes_on heard) (a.1 heard))
    asks_behind (ChangingAll changes goes_on) a = (a.0, λ heard. asks_behind (goes_on heard) (a.1 heard))
    asks_behind (Asking query goes_on) a = λ heard. asks_behind (goes_on heard) (a heard)
    asks_behind (Routing from facts goes_on) a = λ heard. asks_behind (goes_on heard) (a heard)
    asks_behind (AskingPresence number goes_on) a = λ heard. asks_behind (goes_on heard) (a heard)
    asks_behind (Noting told s) a = asks_behind s a
    asks_behind (Framing bytes goes_on) a = λ incoming. asks_behind (goes_on incoming) (a incoming)
    asks_behind (Calling m goes_on) a = λ reading. asks_behind (goes_on reading) (a reading)
    asks_behind (Gating call s) a = asks_behind s a
    asks_behind (Wanting goes_on) a = λ granted. asks_behind (goes_on granted) (a granted)
    asks_behind (Requiring holds s) a = asks_behind s a
    asks_behind (Doing deed s) a = asks_behind s a
    asks_behind (Announcing signals s) a = asks_behind s a

  pub asks_by_test : {X : Type 0} (b : Bool) (s t : Script X) → Asks s → Asks t → Asks (if b then s else t)
  asks_by_test true s t a c = a
  asks_by_test false s t a c = c

  pub asks_put : {X : Type 0} (conns : List Conn) (said : Said) (s : Script X) → Asks s → Asks (putting conns said s)
  asks_put [] said s a = a
  asks_put (conn ∷ conns) said s a = a

  -- ## Messages of the bus

  stays_open : (work : Work) → Asks work → Asks (sv.staying_after work)
  stays_open work a = asks_behind (λ done. sv.staying_open) (λ done. tt) work a

  tells : (conn : Conn) (own : Own) → Asks (sv.telling conn own)
  tells conn own = λ heard. asks_put (deliveries_of (conn ∷ []) (sv.monitors_in heard)) (Tells own) sv.nothing tt

  pub replies : (m : Message) (caller : Conn) (carried : Carried) → Asks (sv.replying m caller carried)
  replies m caller carried = asks_by_test (expects_reply m) _ sv.nothing (tells caller (Replies (sv.call_of m caller) carried)) tt

  errs : (m : Message) (caller : Conn) (kind : ErrorKind) → Asks (sv.erring m caller kind)
  errs m caller kind = asks_by_test (expects_reply m) _ sv.nothing (tells caller (Errs (sv.call_of m caller) kind)) tt

  errs_if_call : (m : Message) (caller : Conn) (kind : ErrorKind) → Asks (sv.erring_if_call m caller kind)
  errs_if_call m caller kind = asks_by_test (sv.is_method_call m) _ sv.nothing (errs m caller kind) tt

  err_stays : (m : Message) (caller : Conn) (kind : ErrorKind) → Asks (sv.staying_after (sv.erring m caller kind))
  err_stays m caller kind = stays_open (sv.erring m caller kind) (errs m caller kind)

  answers_with : (m : Message) (caller : Conn) (r : Result Carried ErrorKind) → Asks (sv.answering_with m caller r)
  answers_with m caller (Ok carried) = replies m caller carried
  answers_with m caller (Err kind) = errs m caller kind

  releases_if : (t : Ticket) (granted : Bool) → Asks (sv.start_reply_if t.caller (sv.call_of_ticket t) granted)
  releases_if t true = tells t.caller (Replies (sv.call_of_ticket t) sv.start_reply)
  releases_if t false = tt

  releases : (owner : Conn) (t : Ticket) (message : Option (List ℕ)) → Asks (sv.releasing owner t message)
  releases owner t (Some bytes) = tt
  releases owner t None = asks_by_test (sv.ticket_wants_reply t) _ sv.nothing (λ granted. releases_if t granted) tt

  releases_all : (owner : Conn) (tickets : List SettledTicket) → Asks (sv.releasing_all owner tickets)
  releases_all owner [] = tt
  releases_all owner (t ∷ tickets) = asks_behind (λ done. sv.releasing_all owner tickets) (λ done. releases_all owner tickets) (sv.releasing owner t.ticket t.ticket.message) (releases owner t.ticket t.ticket.message)

  fails_if : (kind : ErrorKind) (t : Ticket) (granted : Bool) → Asks (sv.failing_if kind t.caller (sv.call_of_ticket t) granted)
  fails_if kind t true = tells t.caller (Errs (sv.call_of_ticket t) kind)
  fails_if kind t false = tt

  fails : (kind : ErrorKind) (t : Ticket) → Asks (sv.failing kind t)
  fails kind t = asks_by_test (sv.ticket_wants_reply t) _ sv.nothing (λ granted. fails_if kind t granted) tt

  pub fails_all : (kind : ErrorKind) (tickets : List SettledTicket) → Asks (sv.failing_all kind tickets)
  fails_all kind [] = tt
  fails_all kind (t ∷ tickets) = asks_behind (λ done. sv.failing_all kind tickets) (λ done. fails_all kind tickets) (sv.failing kind t.ticket) (fails kind t.ticket)

  -- ## Calls to the bus

  tells_change : (m : Message) (caller : Conn) (o : Outcome) → Asks (sv.telling_change m caller o)
  tells_change m caller o =
      asks_behind (λ done. sv.releasing_all caller o.tickets) (λ done. releases_all caller o.tickets) (sv.answering_with m caller (sv.answer_of_reply o.reply)) (answers_with m caller (sv.answer_of_reply o.reply))

  told_stays : (m : Message) (caller : Conn) (o : Outcome) → Asks (sv.staying_after (sv.telling_change m caller o))
  told_stays m caller o = stays_open (sv.telling_change m caller o) (tells_change m caller o)

  changed_by : (m : Message) (caller : Conn) (o : Outcome) (r : Reply) → Asks (sv.after_change_by m caller o r)
  changed_by m caller o reply.Gone = tt
  changed_by m caller o reply.Done = told_stays m caller o
  changed_by m caller o (reply.OfQueue r) = told_stays m caller o
  changed_by m caller o reply.InvalidName = told_stays m caller o
  changed_by m caller o reply.RuleNotFound = told_stays m caller o
  changed_by m caller o reply.LimitsExceeded = told_stays m caller o
  changed_by m caller o reply.ServiceUnknown = told_stays m caller o
  changed_by m caller o reply.AccessDenied = told_stays m caller o
  changed_by m caller o reply.AlreadyRunning = told_stays m caller o
  changed_by m caller o (reply.Welcome conn) = told_stays m caller o
  changed_by m caller o (reply.Held ticket) = told_stays m caller o
  changed_by m caller o (reply.Pass owner) = told_stays m caller o
  changed_by m caller o reply.Ignored = told_stays m caller o

  pub changed : (m : Message) (caller : Conn) (heard : Heard Outcome) → Asks (sv.after_change m caller heard)
  changed m caller (Refuses refusal) = err_stays m caller (error_for refusal)
  changed m caller (Says o) = changed_by m caller o o.reply

  runs_start : (name : Text) (start : Option ℕ) → Asks (sv.running name start)
  runs_start name None = tt
  runs_start name (Some start) = tt

  reply_stays : (m : Message) (caller : Conn) (carried : Carried) → Asks (sv.staying_after (sv.replying m caller carried))
  reply_stays m caller carried = stays_open (sv.replying m caller carried) (replies m caller carried)

  started_by : (m : Message) (caller : Conn) (name : Text) (o : Outcome) (r : Reply) → Asks (sv.after_start_by m caller name o r)
  started_by m caller name o reply.Gone = tt
  started_by m caller name o (reply.Held ticket) = stays_open (sv.running name o.start) (runs_start name o.start)
  started_by m caller name o reply.AlreadyRunning = reply_stays m caller (Number 2)
  started_by m caller name o reply.ServiceUnknown = err_stays m caller error.ServiceUnknown
  started_by m caller name o reply.LimitsExceeded = err_stays m caller error.LimitsExceeded
  started_by m caller name o reply.Done = reply_stays m caller Nothing
  started_by m caller name o (reply.OfQueue r) = reply_stays m caller (Number (code_of r))
  started_by m caller name o reply.InvalidName = err_stays m caller error.InvalidArgs
  started_by m caller name o reply.RuleNotFound = err_stays m caller error.MatchRuleNotFound
  started_by m caller name o reply.AccessDenied = err_stays m caller error.AccessDenied
  started_by m caller name o (reply.Welcome conn) = err_stays m caller error.Failed
  started_by m caller name o (reply.Pass owner) = err_stays m caller error.Failed
  started_by m caller name o reply.Ignored = err_stays m caller error.Failed

  started : (m : Message) (caller : Conn) (name : Text) (heard : Heard Outcome) → Asks (sv.after_start m caller name heard)
  started m caller name (Refuses refusal) = err_stays m caller (error_for refusal)
  started m caller name (Says o) = started_by m caller name o o.reply

  starts_if : (m : Message) (caller : Conn) (name : Text) (granted : Bool) → Asks (sv.starting_if m caller name granted)
  starts_if m caller name true = (tt, λ heard. started m caller name heard)
  starts_if m caller name false = err_stays m caller error.NoMemory

  watched_by : (m : Message) (caller : Conn) (o : Outcome) (r : Reply) → Asks (sv.after_watch_by m caller o r)
  watched_by m caller o reply.Gone = tt
  watched_by m caller o reply.Done = asks_behind (λ done. Gives fate.Watches) (λ done. tt) (sv.telling_change m caller o) (tells_change m caller o)
  watched_by m caller o reply.AccessDenied = told_stays m caller o
  watched_by m caller o (reply.OfQueue r) = told_stays m caller o
  watched_by m caller o reply.InvalidName = told_stays m caller o
  watched_by m caller o reply.RuleNotFound = told_stays m caller o
  watched_by m caller o reply.LimitsExceeded = told_stays m caller o
  watched_by m caller o reply.ServiceUnknown = told_stays m caller o
  watched_by m caller o reply.AlreadyRunning = told_stays m caller o
  watched_by m caller o (reply.Welcome conn) = told_stays m caller o
  watched_by m caller o (reply.Held ticket) = told_stays m caller o
  watched_by m caller o (reply.Pass owner) = told_stays m caller o
  watched_by m caller o reply.Ignored = told_stays m caller o

  watched : (m : Message) (caller : Conn) (heard : Heard Outcome) → Asks (sv.after_watch m caller heard)
  watched m caller (Refuses refusal) = err_stays m caller (error_for refusal)
  watched m caller (Says o) = watched_by m caller o o.reply

  watches_if : (m : Message) (caller : Conn) (rules : List Rule) (granted : Bool) → Asks (sv.watching_if m caller rules granted)
  watches_if m caller rules true = (tt, λ heard. watched m caller heard)
  watches_if m caller rules false = err_stays m caller error.NoMemory

  answers_if : (m : Message) (caller : Conn) (told : Answer) (granted : Bool) → Asks (sv.answering_if m caller told granted)
  answers_if m caller told true = replies m caller (Answered told)
  answers_if m caller told false = errs m caller error.NoMemory

  answered : (m : Message) (caller : Conn) (heard : Heard (Option Answer)) → Asks (sv.after_answer m caller heard)
  answered m caller (Refuses refusal) = errs m caller (error_for refusal)
  answered m caller (Says None) = errs m caller error.NameHasNoOwner
  answered m caller (Says (Some told)) = λ granted. answers_if m caller told granted

  asks_query : (m : Message) (caller : Conn) (heard : Heard (Option Answer)) → Asks (sv.staying_after (sv.after_answer m caller heard))
  asks_query m caller heard = stays_open (sv.after_answer m caller heard) (answered m caller heard)

  serves_request : (m : Message) (caller : Conn) (c : Call) → Asks (sv.serving_request m caller (sv.request_of caller.number c))
  serves_request m caller call.Hello = err_stays m caller error.Failed
  serves_request m caller (call.RequestName name flags) = (tt, λ heard. changed m caller heard)
  serves_request m caller (call.ReleaseName name) = (tt, λ heard. changed m caller heard)
  serves_request m caller (call.GetNameOwner name) = λ heard. asks_query m caller heard
  serves_request m caller (call.NameHasOwner name) = λ heard. asks_query m caller heard
  serves_request m caller call.ListNames = λ heard. asks_query m caller heard
  serves_request m caller call.ListActivatableNames = λ heard. asks_query m caller heard
  serves_request m caller (call.ListQueuedOwners name) = λ heard. asks_query m caller heard
  serves_request m caller (call.AddMatch rule) = (tt, λ heard. changed m caller heard)
  serves_request m caller (call.RemoveMatch rule) = (tt, λ heard. changed m caller heard)
  serves_request m caller (call.StartServiceByName name) = λ granted. starts_if m caller name granted
  serves_request m caller (call.BecomeMonitor rules) = λ granted. watches_if m caller rules granted

  serves_reading : (m : Message) (caller : Conn) (reading : Reading Call) → Asks (sv.serving_reading m caller reading)
  serves_reading m caller (Err fault) = err_stays m caller (error_of fault)
  serves_reading m caller (Ok c) = serves_request m caller c

  serves_call_if : (m : Message) (caller : Conn) (granted : Bool) → Asks (sv.serving_call_if m caller granted)
  serves_call_if m caller true = λ reading. serves_reading m caller reading
  serves_call_if m caller false = err_stays m caller error.NoMemory

  serves_bus : (m : Message) (caller : Conn) → Asks (sv.serving_bus m caller)
  serves_bus m caller = asks_by_test (sv.is_method_call m) _ sv.staying_open (λ granted. serves_call_if m caller granted) tt

  -- ## Messages to others

  if_call_stays : (m : Message) (caller : Conn) (kind : ErrorKind) → Asks (sv.staying_after (sv.erring_if_call m caller kind))
  if_call_stays m caller kind = stays_open (sv.erring_if_call m caller kind) (errs_if_call m caller kind)

  puts_copies_if : (m : Message) (sender : Conn) (to : List Conn) (goes_on : OfFate) (granted : Bool) → Asks goes_on → Asks (sv.putting_copies_if m sender to goes_on granted)
  puts_copies_if m sender to goes_on true a = a
  puts_copies_if m sender to goes_on false a = if_call_stays m sender error.NoMemory

  puts_copies : (m : Message) (sender : Conn) (to : List Conn) (goes_on : OfFate) → Asks goes_on → Asks (sv.putting_copies m sender to goes_on)
  puts_copies m sender [] goes_on a = a
  puts_copies m sender (conn ∷ conns) goes_on a = λ granted. puts_copies_if m sender (conn ∷ conns) goes_on granted a

  relays_to : (m : Message) (sender : Conn) (to : List Conn) (goes_on : OfFate) → Asks goes_on → Asks (sv.relaying_to m sender to goes_on)
  relays_to m sender to goes_on a = asks_by_test (is_too_long (sv.with_sender m sender)) _ _ tt (puts_copies m sender to goes_on a)

  shows : (m : Message) (sender : Conn) (to : List Conn) (goes_on : OfFate) → Asks goes_on → Asks (sv.showing m sender to goes_on)
  shows m sender [] goes_on a = a
  shows m sender (conn ∷ conns) goes_on a = relays_to m sender (conn ∷ conns) goes_on a

  held_by : (m : Message) (caller : Conn) (name : Text) (o : Outcome) (r : Reply) → Asks (sv.after_hold_by m caller name o r)
  held_by m caller name o reply.Gone = tt
  held_by m caller name o (reply.Pass owner) = tt
  held_by m caller name o (reply.Held ticket) = stays_open (sv.running name o.start) (runs_start name o.start)
  held_by m caller name o reply.ServiceUnknown = err_stays m caller error.ServiceUnknown
  held_by m caller name o reply.LimitsExceeded = err_stays m caller error.LimitsExceeded
  held_by m caller name o reply.Done = tt
  held_by m caller name o (reply.OfQueue r) = tt
  held_by m caller name o reply.InvalidName = tt
  held_by m caller name o reply.RuleNotFound = tt
  held_by m caller name o reply.AccessDenied = tt
  held_by m caller name o reply.AlreadyRunning = tt
  held_by m caller name o (reply.Welcome conn) = tt
  held_by m caller name o reply.Ignored = tt

  held : (m : Message) (caller : Conn) (name : Text) (heard : Heard Outcome) → Asks (sv.after_hold m caller name heard)
  held m caller name (Refuses refusal) = err_stays m caller (error_for refusal)
  held m caller name (Says o) = held_by m caller name o o.reply

  holds_if : (m : Message) (caller : Conn) (name : Text) (granted : Bool) → Asks (sv.holding_if m caller name granted)
  holds_if m caller name true = (tt, λ heard. held m caller name heard)
  holds_if m caller name false = err_stays m caller error.NoMemory

  holds : (m : Message) (caller : Conn) (name : Option Text) → Asks (sv.holding m caller name)
  holds m caller None = tt
  holds m caller (Some name) = λ granted. holds_if m caller name granted

  relays : (m : Message) (sender : Conn) (v : Verdict) (kind : VerdictKind) → Asks (sv.relaying m sender v kind)
  relays m sender v verdict.Absent = tt
  relays m sender v verdict.Bus = shows m sender v.monitors (sv.serving_bus m sender) (serves_bus m sender)
  relays m sender v verdict.Plain = relays_to m sender (deliveries_of v.to v.monitors) sv.staying_open tt
  relays m sender v verdict.Nobody = relays_to m sender v.monitors (sv.staying_after (sv.erring_if_call m sender error.ServiceUnknown)) (if_call_stays m sender error.ServiceUnknown)
  relays m sender v verdict.Start =
      relays_to m sender v.monitors (sv.holding m sender (text_field field.Destination m.fields)) (holds m sender (text_field field.Destination m.fields))

  pub routes : (m : Message) (sender : Conn) (heard : Heard Verdict) → Asks (sv.routing m sender heard)
  routes m sender (Refuses refusal) = if_call_stays m sender (error_for refusal)
  routes m sender (Says v) = relays m sender v v.kind

  pub serves : (m : Message) (sender : Conn) → Asks (sv.serving m sender)
  serves m sender =
      asks_by_test (sv.is_unknown (kind_of m.kind)) sv.staying_open (Routing sender.number (facts_of m) (λ heard. sv.routing m sender heard)) tt (λ heard. routes m sender heard)

  -- ## Calls whose changes are made together

  -- what is done for one that does not join
  abbrev pub AsksIn : Joining → Type 0
  AsksIn Joins = Unit {0}
  AsksIn (Parts work) = Asks work

  copied_if : (m : Message) (caller : Conn) (monitors : List Conn) (c : RuleCall) (granted : Bool) → Asks (joining_copied_if m caller monitors c granted) × Always AsksIn (joining_copied_if m caller monitors c granted)
  copied_if m caller monitors c true = (tt, tt)
  copied_if m caller monitors c false = (tt, if_call_stays m caller error.NoMemory)

  joins_relayed : (m : Message) (caller : Conn) (monitors : List Conn) (c : RuleCall) → Asks (joining_relayed m caller monitors c) × Always AsksIn (joining_relayed m caller monitors c)
  joins_relayed m caller monitors c = (
    asks_by_test (is_too_long (sv.with_sender m caller)) _ _ tt (λ granted. (copied_if m caller monitors c granted).0),
    by_test AsksIn (is_too_long (sv.with_sender m caller)) _ _ tt (λ granted. (copied_if m caller monitors c granted).1),
  )

  joins_shown : (m : Message) (caller : Conn) (monitors : List Conn) (c : RuleCall) → Asks (joining_shown m caller monitors c) × Always AsksIn (joining_shown m caller monitors c)
  joins_shown m caller [] c = (tt, tt)
  joins_shown m caller (conn ∷ conns) c = joins_relayed m caller (conn ∷ conns) c

  joins_to : (m : Message) (caller : Conn) (v : Verdict) (c : RuleCall) (kind : VerdictKind) → Asks (joining_to m caller v c kind) × Always AsksIn (joining_to m caller v c kind)
  joins_to m caller v c verdict.Bus = joins_shown m caller v.monitors c
  joins_to m caller v c verdict.Absent = (tt, routes m caller (Says v))
  joins_to m caller v c verdict.Plain = (tt, routes m caller (Says v))
  joins_to m caller v c verdict.Nobody = (tt, routes m caller (Says v))
  joins_to m caller v c verdict.Start = (tt, routes m caller (Says v))

  joins_routed : (m : Message) (caller : Conn) (c : RuleCall) (heard : Heard Verdict) → Asks (joining_routed m caller c heard) × Always AsksIn (joining_routed m caller c heard)
  joins_routed m caller c (Refuses refusal) = (tt, routes m caller (Refuses refusal))
  joins_routed m caller c (Says v) = joins_to m caller v c v.kind

  pub joins : (m : Message) (caller : Conn) (c : RuleCall) → Asks (joining m caller c) × Always AsksIn (joining m caller c)
  joins m caller c = (λ heard. (joins_routed m caller c heard).0, λ heard. (joins_routed m caller c heard).1)
