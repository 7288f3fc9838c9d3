-- Each Hello is of a connection that has no name yet, and is as privileged as that is.
use Rattle.std.proofs.Common.{◌≡◌, ℕ, Bool, true, false, Option, Some, None, List, [], ◌∷◌, ◌++◌, length, map, eqb, refl, sym, ap, ◌∙◌, subst}
use Rattle.std.specs.List.{AllByRecursion, position}
use Rattle.sasl.specs.Laws.{NobodyIsLetInUnknown}
use Rattle.sasl.specs.Settings.{Setting}
use Rattle.sasl.specs.Hearing.{Conversed, conversed}
use Rattle.sasl.specs.declared.phase.Phase.{Phase}
use Rattle.sasl.specs.declared.phase.Phase.TheVariants as phase
use Rattle.names.specs.Texts.{Text}
use Rattle.seq_bus_core.specs.Batches.{max_batch}
use Rattle.seq_bus_core.specs.Histories.{History}
use Rattle.seq_bus_core.specs.declared.change.Change.{Change}
use Rattle.seq_bus_core.specs.declared.change.Change.TheVariants.{Hello, Leave}
use Rattle.seq_bus_core.specs.declared.connection.Conn.{Conn}
use Rattle.seq_bus_core.specs.declared.error_kind.ErrorKind.{ErrorKind}
use Rattle.seq_bus_core.specs.declared.error_kind.ErrorKind.TheVariants.{LimitsExceeded}
use Rattle.seq_bus_core.specs.declared.outcome.Outcome.{Outcome}
use Rattle.seq_bus_core.specs.declared.outcome.Reply.{Reply}
use Rattle.seq_bus_core.specs.declared.outcome.Reply.TheVariants as reply
use Rattle.message_core.specs.Messages.{Message}
use Rattle.message_core.specs.Said.{said as message_said}
use Rattle.driver.specs.Calls.{expects_reply, is_hello}
use Rattle.outbox_core.specs.Contents.{Said, Relays, Tells, Own, Errs, UniqueName}
use Rattle.router_core.specs.declared.cause.CloseCause.TheVariants as cause
use Rattle.router_core.specs.declared.fate.PeerFate.{PeerFate}
use Rattle.router_core.specs.declared.fate.PeerFate.TheVariants as fate
use Rattle.router_core.specs.declared.joint.Joint.{Joint}
use Rattle.router_core.specs.declared.joint.RuleCall.{RuleCall}
use Rattle.router_core.specs.declared.joint.RuleCall.TheVariants.{Adds, Removes}
use Rattle.router_core.specs.declared.start_end.HowEnded.{HowEnded}
use Rattle.router_core.specs.declared.start_end.HowEnded.TheVariants as how
use Rattle.router_core.specs.Acts.{Exchange, Changed, ChangedAll, Asked, Routed, AskedPresence, Noted, Framed, Called, Gated, Wanted}
use Rattle.router_core.specs.Answers.{Heard, Says, Refuses, error_for}
use Rattle.router_core.specs.Events as ev
use Rattle.router_core.specs.Events.{Occasion, OfPeer, Stands, Opened, Bytes, Next, Turn, Mail, Closed, Full, Child, Tick}
use Rattle.router_core.specs.Incoming.{Incoming, Waits, Whole, Faulty}
use Rattle.router_core.specs.Scripts.{Gives, and_then}
use Rattle.router_core.specs.Serving.{OfFate, monitors_in, replying, serving, failing_all}
use Rattle.router_core.specs.Standing.{Stage, Authenticating, Unnamed, Named, Closing, Peer, Standing, conn_of, has_slot, is_conn, peer_at, with_peer, without_peer}
use Rattle.router_core.specs.Together.{Joining, Joins, Parts, change_of_joint, change_of_rule, joining, may_join, rule_call}
use Rattle.router_laws.specs.Logins.{AsksHellosOf, Client, HasSaid, HellosAreOfThoseLetIn, IsHelloOf, IsLetIn, client_of}
use Rattle.router_laws.proofs.Asking.{Asks, AsksIn, asked_so, asks_behind, asks_by_test, asks_put, asks_then, changed, fails_all, joins, replies, serves}
use Rattle.router_laws.proofs.Letting.{each_has_shown}
use Rattle.router_laws.proofs.Passing.{Gathers, all_pass, gathering_passes}
use Rattle.router_laws.proofs.Results.{Always, weaker}
use Rattle.router_laws.proofs.Stages.{MaySpeak, Passes, as_it_was, unnamed_still, has_name, was_closed, PassesAt, Ahead, ahead_both, ahead_none, ahead_with, at_one, at_then, stays}

-- it is that of a connection that is there without a name
abbrev OfUnnamed : Standing → Bool → Type 0
OfUnnamed s privileged = (key : ℕ) × (p : Peer) × (peer_at s key ≡ Some p) × (p.stage ≡ Unnamed privileged)

abbrev stage_of : Option Peer → Stage
stage_of None = Closing None
stage_of (Some p) = p.stage

-- who has no name yet had none before, and was as privileged
unnamed_before : (s t : Standing) (key : ℕ) (p : Peer) (privileged : Bool) → Ahead s t → peer_at t key ≡ Some p → p.stage ≡ Unnamed privileged → OfUnnamed s privileged
unnamed_before s t key p privileged a here is = by_peer (peer_at s key) refl (a.each key)
  where
    by_passes : (o q : Peer) → peer_at s key ≡ Some o → q.stage ≡ Unnamed privileged → Passes o q → OfUnnamed s privileged
    by_passes o q was now (as_it_was e) = (key, o, was, ap (λ (x : Peer). x.stage) (sym e) ∙ now)
    by_passes o q was now (unnamed_still before first last) = (key, o, was, first ∙ sym last ∙ now)
    by_passes o q was now (has_name conn may last) = let never : Named conn ≡ Unnamed privileged = sym last ∙ now in absurd (cc)
    by_passes o q was now (was_closed conn may last) = let never : Closing conn ≡ Unnamed privileged = sym last ∙ now in absurd (cc)

    by_peer : (o : Option Peer) → peer_at s key ≡ o → PassesAt o (peer_at t key) → OfUnnamed s privileged
    by_peer None was h = let never : Some p ≡ None = sym here ∙ h in absurd (cc)
    by_peer (Some o) was h =
        let same : h.0.stage ≡ p.stage = ap stage_of (sym h.1 ∙ here) in
        by_passes o h.0 was (same ∙ is) h.2

module _ (start : Standing) where
  abbrev Such : Bool → Type 0
  Such = OfUnnamed start

  -- ## One connection

  for_asks : (s : Standing) (k : ℕ) (o : Option Peer) (work : Peer → OfPeer) → ((p : Peer) → Asks Such (work p)) → Asks Such (ev.for_peer s k o work)
  for_asks s k None work each = tt
  for_asks s k (Some p) work each =
      asks_behind Such (λ q. Gives (with_peer s k q)) (λ q. tt) (ev.for_entry (Some p) work) (asks_behind Such (λ q. Gives (Some q)) (λ q. tt) (work p) (each p))

  fated : (k : ℕ) (end : PeerFate) (p : Peer) → Asks Such (ev.after_serving k end p)
  fated k fate.Stays p = tt
  fated k fate.Watches p = tt
  fated k (fate.Closes why) p = tt

  worked : (s : Standing) (k : ℕ) (o : Option Peer) (work : OfFate) → Asks Such work → Asks Such (ev.for_peer s k o (λ q. and_then work (λ end. ev.after_serving k end q)))
  worked s k o work a = for_asks s k o (λ q. and_then work (λ end. ev.after_serving k end q)) (λ q. asks_behind Such (λ end. ev.after_serving k end q) (λ end. fated k end q) work a)

  said_by : (k : ℕ) (setting : Setting) (said : Conversed) (now : Phase) (p : Peer) → Asks Such (ev.after_conversing k setting said now p)
  said_by k setting said (phase.Done identity) p = tt
  said_by k setting said (phase.Closed fault) p = tt
  said_by k setting said phase.WaitingForNul p = tt
  said_by k setting said phase.WaitingForAuth p = tt
  said_by k setting said (phase.WaitingForData due) p = tt
  said_by k setting said (phase.WaitingForBegin identity) p = tt

  said_if : (k : ℕ) (sent : List ℕ) (s : OfPeer) → Asks Such s → Asks Such (ev.answering k sent s)
  said_if k [] s a = a
  said_if k (b ∷ bytes) s a = a

  conversed_if : (k : ℕ) (setting : Setting) (said : Conversed) (p : Peer) (granted : Bool) → Asks Such (ev.conversing_if k setting said p granted)
  conversed_if k setting said p true = said_if k said.sent (ev.after_conversing k setting said said.state.phase p) (said_by k setting said said.state.phase p)
  conversed_if k setting said p false = tt

  hears : (k : ℕ) (piece : List ℕ) (p : Peer) (stage : Stage) → Asks Such (ev.hearing k piece p stage)
  hears k piece p (Authenticating setting state) = λ granted. conversed_if k setting (conversed setting state [] (p.unread ++ piece)) p granted
  hears k piece p (Unnamed privileged) = tt
  hears k piece p (Named conn) = tt
  hears k piece p (Closing conn) = tt

  -- ## Hello

  refuses : (k : ℕ) (m : Message) (kind : ErrorKind) (p : Peer) → Asks Such (ev.refusing_hello k m kind p)
  refuses k m kind p =
      let own : Own = Errs (record { caller = None; call = m.serial }) kind in
      asks_by_test Such (expects_reply m) _ (Gives p) (λ heard. asks_put Such (monitors_in heard) (Tells own) _ tt) tt

  dismisses : (k : ℕ) (m : Message) (p : Peer) → Asks Such (ev.dismissal k m p)
  dismisses k m p = asks_behind Such (λ q. ev.closing k cause.LimitsExceeded q) (λ q. tt) (ev.refusing_hello k m LimitsExceeded p) (refuses k m LimitsExceeded p)

  former : (s : Standing) (conn : Conn) → Asks Such (ev.closing_former s conn)
  former s conn = by_found (position (has_slot conn.slot) s.peers)
    where
      by_found : (found : Option ℕ) → Asks Such (ev.closing_if_found s found)
      by_found None = tt
      by_found (Some k) = for_asks s k (peer_at s k) (λ p. ev.closing k cause.Left p) (λ p. tt)

  greets : (k : ℕ) (m : Message) (p : Peer) (o : Outcome) (conn : Conn) (t : Standing) → Asks Such (ev.greeting k m p o conn t)
  greets k m p o conn t = asks_behind Such _ (λ done. tt) (replying m conn (UniqueName conn.number)) (replies Such m conn (UniqueName conn.number))

  dismissed : (s : Standing) (k : ℕ) (m : Message) (p : Peer) → Asks Such (ev.for_peer s k (Some p) (ev.dismissal k m))
  dismissed s k m p = for_asks s k (Some p) (ev.dismissal k m) (λ q. dismisses k m q)

  hello_by : (s : Standing) (k : ℕ) (m : Message) (p : Peer) (o : Outcome) (r : Reply) → Asks Such (ev.after_hello_by s k m p o r)
  hello_by s k m p o (reply.Welcome conn) = asks_behind Such (λ t. ev.greeting k m p o conn t) (λ t. greets k m p o conn t) (ev.closing_former s conn) (former s conn)
  hello_by s k m p o reply.LimitsExceeded = dismissed s k m p
  hello_by s k m p o reply.Gone = dismissed s k m p
  hello_by s k m p o reply.Done = dismissed s k m p
  hello_by s k m p o (reply.OfQueue r) = dismissed s k m p
  hello_by s k m p o reply.InvalidName = dismissed s k m p
  hello_by s k m p o reply.RuleNotFound = dismissed s k m p
  hello_by s k m p o reply.AccessDenied = dismissed s k m p
  hello_by s k m p o reply.AlreadyRunning = dismissed s k m p
  hello_by s k m p o (reply.Held ticket) = dismissed s k m p
  hello_by s k m p o reply.ServiceUnknown = dismissed s k m p
  hello_by s k m p o (reply.Pass owner) = dismissed s k m p
  hello_by s k m p o reply.Ignored = dismissed s k m p

  after_hello : (s : Standing) (k : ℕ) (m : Message) (p : Peer) (heard : Heard Outcome) → Asks Such (ev.after_hello s k m p heard)
  after_hello s k m p (Refuses refusal) = for_asks s k (Some p) (ev.refusing_hello k m (error_for refusal)) (λ q. refuses k m (error_for refusal) q)
  after_hello s k m p (Says o) = hello_by s k m p o o.reply

  -- ## The next message

  named : (s : Standing) (k : ℕ) (m : Message) (p : Peer) (conn : Conn) (watches : Bool) → Asks Such (ev.serving_named s k m p conn watches)
  named s k m p conn true = for_asks s k (Some p) (ev.closing k cause.MonitorSent) (λ q. tt)
  named s k m p conn false = worked s k (Some p) (serving m conn) (serves Such m conn)

  served_at : (s : Standing) (k : ℕ) (m : Message) (p : Peer) (stage : Stage) → ((privileged : Bool) → stage ≡ Unnamed privileged → Such privileged) → Asks Such (ev.serving_at s k m p stage)
  served_at s k m p (Authenticating setting state) such = tt
  served_at s k m p (Unnamed privileged) such =
      asks_by_test Such (is_hello m) _ _ (such privileged refl, λ heard. after_hello s k m p heard) (for_asks s k (Some p) (ev.closing k cause.NotHello) (λ q. tt))
  served_at s k m p (Named conn) such = named s k m p conn p.watches
  served_at s k m p (Closing conn) such = tt

  framed : (s : Standing) (k : ℕ) (p : Peer) (incoming : Incoming) → ((privileged : Bool) → p.stage ≡ Unnamed privileged → Such privileged) → Asks Such (ev.serving_incoming s k p incoming)
  framed s k p Waits such = tt
  framed s k p (Faulty fault) such = for_asks s k (Some p) (ev.closing k (cause.Faulty fault)) (λ q. tt)
  framed s k p (Whole bytes rest) such = served_at s k (message_said bytes) (record p { unread = rest }) p.stage such

  next_at : (s : Standing) (k : ℕ) (p : Peer) (stage : Stage) → ((privileged : Bool) → p.stage ≡ Unnamed privileged → Such privileged) → Asks Such (ev.next_at s k p stage)
  next_at s k p (Authenticating setting state) such = tt
  next_at s k p (Unnamed privileged) such = λ incoming. framed s k p incoming such
  next_at s k p (Named conn) such = λ incoming. framed s k p incoming such
  next_at s k p (Closing conn) such = tt

  next_of : (s : Standing) → Ahead start s → (k : ℕ) (o : Option Peer) → peer_at s k ≡ o → Asks Such (ev.serving_next s k o)
  next_of s a k None here = tt
  next_of s a k (Some p) here = next_at s k p p.stage (λ privileged is. unnamed_before start s k p privileged a here is)

  -- ## Turns

  work_of : (s : Standing) (k : ℕ) (o : Option Peer) (work : OfFate) → Asks Such work → Asks Such (ev.work_at s k o work)
  work_of s k None work a = tt
  work_of s k (Some p) work a = by_stage p.stage
    where
      by_stage : (stage : Stage) → Asks Such (ev.work_in s k p stage work)
      by_stage (Named conn) = worked s k (Some p) work a
      by_stage (Authenticating setting state) = tt
      by_stage (Unnamed privileged) = tt
      by_stage (Closing conn) = tt

  rule_fits : (number : ℕ) (c : RuleCall) → IsHelloOf Such (change_of_rule number c)
  rule_fits number (Adds rule) = tt
  rule_fits number (Removes rule) = tt

  rules_fit : (joints : List Joint) → AllByRecursion (IsHelloOf Such) (map change_of_joint joints)
  rules_fit [] = tt
  rules_fit (j ∷ joints) = (rule_fits j.caller.number j.call, rules_fit joints)

  each_asks : (joints : List Joint) (s : Standing) → Asks Such (ev.making_each joints s)
  each_asks [] s = tt
  each_asks (j ∷ joints) s =
      asks_behind Such (λ t. ev.making_each joints t) (λ t. each_asks joints t) (ev.work_for s j.key _)
      (work_of s j.key (peer_at s j.key) _ (rule_fits j.caller.number j.call, λ heard. changed Such (message_said j.message) j.caller heard))

  answers_ask : (joints : List Joint) (outcomes : List Outcome) (s : Standing) → Asks Such (ev.answering_each joints outcomes s)
  answers_ask [] outcomes s = tt
  answers_ask (j ∷ joints) [] s = tt
  answers_ask (j ∷ joints) (o ∷ outcomes) s =
      asks_behind Such (λ t. ev.answering_each joints outcomes t) (λ t. answers_ask joints outcomes t) (ev.work_for s j.key _)
      (work_of s j.key (peer_at s j.key) _ (changed Such (message_said j.message) j.caller (Says o)))

  changes_ask : (joints : List Joint) (s : Standing) (heard : Heard (List Outcome)) → Asks Such (ev.after_changes joints s heard)
  changes_ask joints s (Says outcomes) = answers_ask joints outcomes s
  changes_ask joints s (Refuses refusal) = each_asks joints s

  made_if : (joints : List Joint) (s : Standing) (granted : Bool) → Asks Such (ev.making_if joints s granted)
  made_if joints s true = (rules_fit joints, λ heard. changes_ask joints s heard)
  made_if joints s false = each_asks joints s

  all_ask : (joints : List Joint) (s : Standing) → Asks Such (ev.making_all joints s)
  all_ask [] s = tt
  all_ask (j ∷ []) s = each_asks (j ∷ []) s
  all_ask (j ∷ k ∷ joints) s = λ granted. made_if (j ∷ k ∷ joints) s granted

  joints_ask : (joints : List Joint) (s : Standing) → Ahead start s → (work : Standing → Stands) → ((t : Standing) → Ahead start t → Asks Such (work t)) → Asks Such (ev.after_joints joints s work)
  joints_ask joints s a work each =
      asks_then Such (Ahead start) (λ t. and_then (work t) (λ u. ev.gathering_of_one [] u)) (λ t b. asks_behind Such (λ u. ev.gathering_of_one [] u) (λ u. tt) (work t) (each t b)) (ev.making_all joints s)
      (all_ask joints s) (weaker (Ahead s) (Ahead start) (λ t b. ahead_both start s t a b) (ev.making_all joints s) (all_pass joints s))

  apart_asks : (joints : List Joint) (s : Standing) → Ahead start s → (k : ℕ) → Asks Such (ev.serving_apart joints s k)
  apart_asks joints s a k = joints_ask joints s a (λ t. ev.serving_next t k (peer_at t k)) (λ t b. next_of t b k (peer_at t k) refl)

  joined : (joints : List Joint) (s : Standing) → Ahead start s → (j : Joint) (it : Joining) → AsksIn Such it → Asks Such (ev.after_joining joints s j it)
  joined joints s a j Joins each = tt
  joined joints s a j (Parts work) each = joints_ask joints s a (λ t. ev.work_for t j.key work) (λ t b. work_of t j.key (peer_at t j.key) work each)

  module _ (joints : List Joint) (s : Standing) (a : Ahead start s) (k : ℕ) (message : List ℕ) (p : Peer) (now : PassesAt (peer_at start k) (Some p)) (conn : Conn) where
    call_asks : (c : RuleCall) → Asks Such (ev.joining_call joints s k message p conn c)
    call_asks c =
        let taken : Standing = with_peer s k (Some p) in
        let j : Joint = record { key = k; message = message; caller = conn; call = c } in
        let each = joins Such (message_said message) conn c in
        asks_then Such (AsksIn Such) (λ it. ev.after_joining joints taken j it) (λ it fits. joined joints taken (ahead_with start s k (Some p) a now) j it fits) (joining (message_said message) conn c) each.0 each.1

    reading_asks : (read : Option RuleCall) → Asks Such (ev.joining_reading joints s k message p conn read)
    reading_asks None = apart_asks joints s a k
    reading_asks (Some c) = call_asks c

    join_asks : (granted : Bool) → Asks Such (ev.joining_if joints s k message p conn granted)
    join_asks true = λ reading. reading_asks (rule_call reading)
    join_asks false = apart_asks joints s a k

    message_asks : (watches : Bool) → Asks Such (ev.gathering_message joints s k message p conn watches)
    message_asks true = apart_asks joints s a k
    message_asks false = asks_by_test Such (may_join (message_said message)) _ _ (λ granted. join_asks granted) (apart_asks joints s a k)

  module _ (joints : List Joint) (s : Standing) (a : Ahead start s) (k : ℕ) where
    gathered : (p : Peer) → peer_at s k ≡ Some p → (conn : Conn) → p.stage ≡ Named conn → (incoming : Incoming) → Asks Such (ev.gathering_incoming joints s k p conn incoming)
    gathered p here conn is Waits = tt
    gathered p here conn is (Faulty fault) = apart_asks joints s a k
    gathered p here conn is (Whole bytes rest) =
        let q : Peer = record p { unread = rest } in
        let may : MaySpeak p.stage = subst (λ (x : Stage). MaySpeak x) (sym is) tt in
        let now : PassesAt (peer_at start k) (Some q) = at_then (peer_at start k) (Some p) (Some q) (subst (λ (o : Option Peer). PassesAt (peer_at start k) o) here (a.each k)) (at_one p q (stays p q may refl)) in
        message_asks joints s a k bytes q now conn p.watches

    gathered_apart : (incoming : Incoming) → Asks Such (ev.serving_incoming_apart joints s k incoming)
    gathered_apart Waits = tt
    gathered_apart (Faulty fault) = apart_asks joints s a k
    gathered_apart (Whole bytes rest) = apart_asks joints s a k

    gathering_at : (p : Peer) → peer_at s k ≡ Some p → (stage : Stage) → p.stage ≡ stage → Asks Such (ev.gathering_at joints s k p stage)
    gathering_at p here (Named conn) is = λ incoming. gathered p here conn is incoming
    gathering_at p here (Unnamed privileged) is = λ incoming. gathered_apart incoming
    gathering_at p here (Authenticating setting state) is = tt
    gathering_at p here (Closing conn) is = tt

    gathering_asks : (o : Option Peer) → peer_at s k ≡ o → Asks Such (ev.gathering joints s k o)
    gathering_asks None here = tt
    gathering_asks (Some p) here = gathering_at p here p.stage refl

    then_ahead : (o : Option Peer) → peer_at s k ≡ o → Always (λ (g : ev.Gathered). Ahead start g.standing) (ev.gathering joints s k o)
    then_ahead o here = weaker (Gathers s) (λ (g : ev.Gathered). Ahead start g.standing) (λ g b. ahead_both start s g.standing a b) (ev.gathering joints s k o) (gathering_passes joints s k o here)

  turned_if : (joints : List Joint) (s : Standing) (goes_on : Stands) → Asks Such goes_on → (granted : Bool) → Asks Such (ev.turning_if joints s goes_on granted)
  turned_if joints s goes_on each true = each
  turned_if joints s goes_on each false = all_ask joints s

  turning_asks : (keys : List ℕ) (joints : List Joint) (begun : Bool) (s : Standing) → Ahead start s → Asks Such (ev.turning joints keys begun s)
  turning_asks [] joints begun s a = all_ask joints s
  turning_asks (k ∷ keys) joints false s a =
      asks_then Such (λ (g : ev.Gathered). Ahead start g.standing) (λ g. ev.turning g.joints keys g.served g.standing) (λ g b. turning_asks keys g.joints g.served g.standing b)
      (ev.gathering joints s k (peer_at s k)) (gathering_asks joints s a k (peer_at s k) refl) (then_ahead joints s a k (peer_at s k) refl)
  turning_asks (k ∷ keys) joints true s a =
      let goes_on : Stands = and_then (ev.gathering joints s k (peer_at s k)) (λ g. ev.turning g.joints keys true g.standing) in
      let each : Asks Such goes_on =
      asks_then Such (λ (g : ev.Gathered). Ahead start g.standing) (λ g. ev.turning g.joints keys true g.standing) (λ g b. turning_asks keys g.joints true g.standing b)
      (ev.gathering joints s k (peer_at s k)) (gathering_asks joints s a k (peer_at s k) refl) (then_ahead joints s a k (peer_at s k) refl) in
      λ granted. turned_if joints s goes_on each granted

  -- ## Mail

  mailed : (s : Standing) (said : Said) (found : Option ℕ) → Asks Such (ev.mail_delivery s said found)
  mailed s said None = tt
  mailed s said (Some k) = for_asks s k (peer_at s k) (ev.writing k said) (λ p. written k said p)
    where
      written : (k : ℕ) (said : Said) (p : Peer) → Asks Such (ev.writing k said p)
      written k (Relays bytes) p = tt
      written k (Tells own) p = tt

  noted : (told : Option History) (s : Stands) → Asks Such s → Asks Such (ev.after_note told s)
  noted None s a = a
  noted (Some told) s a = a

  -- ## Leaves

  left : (s : Standing) (number : ℕ) (heard : Heard Outcome) → Asks Such (ev.after_leave s number heard)
  left s number (Says o) = tt
  left s number (Refuses refusal) = tt

  leaves : (s : Standing) (number : ℕ) → Asks Such (ev.leaving s number)
  leaves s number = (tt, λ heard. left s number heard)

  leaves_of : (s : Standing) (conn : Option Conn) → Asks Such (ev.leaving_of s conn)
  leaves_of s None = tt
  leaves_of s (Some conn) = leaves s conn.number

  removed : (s : Standing) (k : ℕ) (o : Option Peer) → Asks Such (ev.removing s k o)
  removed s k None = tt
  removed s k (Some p) = leaves_of (without_peer s k) (conn_of p.stage)

  leaves_each : (numbers : List ℕ) (s : Standing) → Asks Such (ev.leaving_each numbers s)
  leaves_each [] s = tt
  leaves_each (number ∷ numbers) s = asks_behind Such (λ t. ev.leaving_each numbers t) (λ t. leaves_each numbers t) (ev.leaving s number) (leaves s number)

  announces : (outcomes : List Outcome) → Asks Such (ev.announcing_all outcomes)
  announces [] = tt
  announces (o ∷ outcomes) = announces outcomes

  leaves_heard : (s : Standing) (numbers : List ℕ) (heard : Heard (List Outcome)) → Asks Such (ev.after_leaves s numbers heard)
  leaves_heard s numbers (Says outcomes) = asks_behind Such (λ done. Gives s) (λ done. tt) (ev.announcing_all outcomes) (announces outcomes)
  leaves_heard s numbers (Refuses refusal) = leaves_each numbers s

  leaves_fit : (numbers : List ℕ) → AllByRecursion (IsHelloOf Such) (map Leave numbers)
  leaves_fit [] = tt
  leaves_fit (number ∷ numbers) = (tt, leaves_fit numbers)

  leaves_if : (s : Standing) (numbers : List ℕ) (granted : Bool) → Asks Such (ev.leaving_if s numbers granted)
  leaves_if s numbers true = (leaves_fit numbers, λ heard. leaves_heard s numbers heard)
  leaves_if s numbers false = leaves_each numbers s

  leaves_together : (s : Standing) (numbers : List ℕ) → Asks Such (ev.leaving_together s numbers)
  leaves_together s [] = tt
  leaves_together s (number ∷ numbers) = λ granted. leaves_if s (number ∷ numbers) granted

  leaves_by : (gathered numbers : List ℕ) (s : Standing) → Asks Such (ev.leaving_by gathered numbers s)
  leaves_by gathered [] s = leaves_together s gathered
  leaves_by gathered (number ∷ numbers) s =
      asks_by_test Such (eqb (length gathered) max_batch) _ _
      (asks_behind Such (λ t. ev.leaving_by (number ∷ []) numbers t) (λ t. leaves_by (number ∷ []) numbers t) (ev.leaving_together s gathered) (leaves_together s gathered))
      (leaves_by (gathered ++ number ∷ []) numbers s)

  -- ## Time

  present : (k : ℕ) (p : Peer) (heard : Heard Bool) → Asks Such (ev.after_check k p heard)
  present k p (Says false) = tt
  present k p (Says true) = tt
  present k p (Refuses refusal) = tt

  checked : (k : ℕ) (p : Peer) (stage : Stage) → Asks Such (ev.checking_presence k p stage)
  checked k p (Named conn) = λ heard. present k p heard
  checked k p (Authenticating setting state) = tt
  checked k p (Unnamed privileged) = tt
  checked k p (Closing conn) = tt

  entry_checked : (k : ℕ) (o : Option Peer) → Asks Such (ev.for_entry o (λ p. ev.checking_presence k p p.stage))
  entry_checked k None = tt
  entry_checked k (Some p) = asks_behind Such (λ q. Gives (Some q)) (λ q. tt) (ev.checking_presence k p p.stage) (checked k p p.stage)

  checks : (done peers : List (Option Peer)) → Asks Such (ev.checking_each done peers)
  checks done [] = tt
  checks done (o ∷ peers) =
      asks_behind Such (λ q. ev.checking_each (done ++ q ∷ []) peers) (λ q. checks (done ++ q ∷ []) peers) (ev.for_entry o (λ p. ev.checking_presence (length done) p p.stage)) (entry_checked (length done) o)

  ticks : (s : Standing) → Asks Such (ev.ticking s)
  ticks s =
      asks_behind Such ev.checking_all (λ t. asks_behind Such (λ peers. Gives (record t { peers = peers })) (λ peers. tt) (ev.checking_each [] t.peers) (checks [] t.peers))
      (ev.leaving_all s.due_leaves (record s { due_leaves = [] })) (leaves_by [] s.due_leaves (record s { due_leaves = [] }))

  -- ## Starts that end

  ended : (s : Standing) (h : HowEnded) (heard : Heard Outcome) → Asks Such (ev.after_end s h heard)
  ended s h (Refuses refusal) = tt
  ended s h (Says o) = asks_behind Such (λ done. Gives s) (λ done. tt) (failing_all (ev.error_of_end h) o.tickets) (fails_all Such (ev.error_of_end h) o.tickets)

  end_fits : (name : Text) (number : ℕ) (h : HowEnded) → IsHelloOf Such (ev.change_by name number h)
  end_fits name number (how.Program ending) = tt
  end_fits name number how.TimedOut = tt

  -- ## Events

  event_asks : (occasion : Occasion) → Asks Such (ev.script start occasion)
  event_asks (Opened k challenge) = tt
  event_asks (Bytes k piece) = for_asks start k (peer_at start k) (λ p. ev.hearing k piece p p.stage) (λ p. hears k piece p p.stage)
  event_asks (Next k) = next_of start (ahead_none start) k (peer_at start k) refl
  event_asks (Turn keys) = turning_asks keys [] false start (ahead_none start)
  event_asks (Mail slot number told said) =
      noted told (ev.mail_delivery start said (position (is_conn slot number) start.peers)) (mailed start said (position (is_conn slot number) start.peers))
  event_asks (Closed k) = removed start k (peer_at start k)
  event_asks (Full number) = leaves start number
  event_asks (Child e) = (end_fits e.name e.start e.how, λ heard. ended start e.how heard)
  event_asks Tick = ticks start

-- ## From the first event on

hello_weaker : (Such Other : Bool → Type 0) → ((privileged : Bool) → Such privileged → Other privileged) → (change : Change) → IsHelloOf Such change → IsHelloOf Other change
hello_weaker Such Other more (Hello privileged) h = more privileged h
hello_weaker Such Other more change h = tt

hellos_weaker : (Such Other : Bool → Type 0) → ((privileged : Bool) → Such privileged → Other privileged) → (changes : List Change) → AllByRecursion (IsHelloOf Such) changes → AllByRecursion (IsHelloOf Other) changes
hellos_weaker Such Other more [] h = tt
hellos_weaker Such Other more (change ∷ changes) h = (hello_weaker Such Other more change h.0, hellos_weaker Such Other more changes h.1)

asked_weaker : (Such Other : Bool → Type 0) → ((privileged : Bool) → Such privileged → Other privileged) → (asked : List Exchange) → AsksHellosOf Such asked → AsksHellosOf Other asked
asked_weaker Such Other more [] h = tt
asked_weaker Such Other more (Changed change heard ∷ later) h = (hello_weaker Such Other more change h.0, asked_weaker Such Other more later h.1)
asked_weaker Such Other more (ChangedAll changes heard ∷ later) h = (hellos_weaker Such Other more changes h.0, asked_weaker Such Other more later h.1)
asked_weaker Such Other more (Asked query heard ∷ later) h = asked_weaker Such Other more later h
asked_weaker Such Other more (Routed from facts heard ∷ later) h = asked_weaker Such Other more later h
asked_weaker Such Other more (AskedPresence number heard ∷ later) h = asked_weaker Such Other more later h
asked_weaker Such Other more (Noted told ∷ later) h = asked_weaker Such Other more later h
asked_weaker Such Other more (Framed bytes incoming ∷ later) h = asked_weaker Such Other more later h
asked_weaker Such Other more (Called m reading ∷ later) h = asked_weaker Such Other more later h
asked_weaker Such Other more (Gated seen call ∷ later) h = asked_weaker Such Other more later h
asked_weaker Such Other more (Wanted granted ∷ later) h = asked_weaker Such Other more later h

pub hellos_are_of_those_let_in : NobodyIsLetInUnknown → HellosAreOfThoseLetIn
hellos_are_of_those_let_in unknown alone login view occasions turns now served occasion asked deeds t goes =
    let s : Standing = now.standing in
    let IsOf : Bool → Type 0 = λ privileged. (key : ℕ) × (client : Client) × (client_of key None occasions ≡ Some client) × IsLetIn login client.challenge client.text privileged in
    asked_weaker (OfUnnamed s) IsOf
    (λ privileged of.
    let said = each_has_shown unknown alone login view occasions turns now served of.0 of.1 of.2 in
    (of.0, said.0, said.1, subst (λ (stage : Stage). HasSaid login said.0 of.1 stage) of.3 said.2))
    asked (asked_so (OfUnnamed s) (ev.script s occasion) asked deeds t goes (event_asks s occasion))
