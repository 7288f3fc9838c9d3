-- What is done for others leaves the bytes of a connection as they are.
use Rattle.std.proofs.Common.{◌≡◌, ◌≢◌, ℕ, zero, suc, Bool, true, false, Option, Some, None, List, [], ◌∷◌, get_or, set, inl, inr, refl, sym, subst}
use Rattle.std.specs.List.{position}
use Rattle.std.proofs.lemmas.Bool.{cases_eq}
use Rattle.std.proofs.lemmas.List.{get_or-set_other}
use Rattle.seq_bus_core.specs.declared.connection.Conn.{Conn}
use Rattle.seq_bus_core.specs.declared.outcome.Outcome.{Outcome}
use Rattle.seq_bus_core.specs.declared.outcome.Reply.{Reply}
use Rattle.seq_bus_core.specs.declared.outcome.Reply.TheVariants as reply
use Rattle.message_core.specs.Messages.{Message}
use Rattle.message_core.specs.Said.{said as message_said}
use Rattle.driver.specs.Calls.{is_hello}
use Rattle.outbox_core.specs.Contents.{UniqueName}
use Rattle.router_core.specs.declared.cause.CloseCause.TheVariants as cause
use Rattle.router_core.specs.declared.fate.PeerFate.{PeerFate}
use Rattle.router_core.specs.declared.fate.PeerFate.TheVariants as fate
use Rattle.router_core.specs.declared.joint.Joint.{Joint}
use Rattle.router_core.specs.declared.joint.RuleCall.{RuleCall}
use Rattle.router_core.specs.Answers.{Heard, Says, Refuses, error_for}
use Rattle.router_core.specs.Events as ev
use Rattle.router_core.specs.Events.{Occasion, OfPeer, Stands, Opened, Bytes, Next, Turn, Mail, Closed, Full, Child, Tick, with_bytes}
use Rattle.router_core.specs.Incoming.{Incoming, Waits, Whole, Faulty}
use Rattle.router_core.specs.Scripts.{Gives, and_then}
use Rattle.router_core.specs.Serving.{OfFate, replying, serving}
use Rattle.router_core.specs.Standing.{Stage, Authenticating, Unnamed, Named, Closing, Peer, Standing, has_slot, peer_at, with_peer}
use Rattle.router_core.specs.Together.{Joining, Joins, Parts, joining, may_join, rule_call}
use Rattle.router_laws.proofs.Results.{Always, by_test, one_then, then_whatever, weaker, whatever}
use Rattle.router_laws.proofs.Stages.{MaySpeak}

-- ## The bytes of one connection

-- The bytes of whoever may send messages are such.
abbrev pub HasOf : (List ℕ → Type 0) → Option Peer → Type 0
HasOf Such None = Unit {0}
HasOf Such (Some p) = MaySpeak p.stage → Such p.unread

pub set_has : (Such : List ℕ → Type 0) (os : List (Option Peer)) (k : ℕ) (o : Option Peer) → HasOf Such o → HasOf Such (get_or (set os k o) k None)
set_has Such [] k o h = tt
set_has Such (x ∷ os) zero o h = h
set_has Such (x ∷ os) (suc k) o h = set_has Such os k o h

module _ (Such : List ℕ → Type 0) (key : ℕ) where
  abbrev Has : Standing → Type 0
  Has s = HasOf Such (peer_at s key)

  -- ## What is done for others leaves them

  -- they are such still
  abbrev pub Kept : Standing → Standing → Type 0
  Kept s t = Has s → Has t

  kept_none : (s : Standing) → Kept s s
  kept_none s h = h

  -- in place of it the bytes of this one are such
  abbrev Instead : Standing → Option Peer → Type 0
  Instead s o = Has s → HasOf Such o

  kept_with : (s t : Standing) (k : ℕ) (o : Option Peer) → Kept s t → (k ≡ key → Instead s o) → Kept s (with_peer t k o)
  kept_with s t k o kept instead h =
      elim (cases_eq key k) [
        | inl same ↦
            subst (λ (n : ℕ). HasOf Such (get_or (set t.peers n o) key None)) same (set_has Such t.peers key o (instead (sym same) h))
        | inr apart ↦ subst (λ (x : Option Peer). HasOf Such x) (sym (get_or-set_other t.peers k key o None apart)) (kept h)
      ]

  kept_then : (s : Standing) (script : Stands) (next : Standing → Stands) → Always (Kept s) script → ((t : Standing) → Always (Kept t) (next t)) → Always (Kept s) (and_then script next)
  kept_then s script next first later =
      one_then (Kept s) (Kept s) next (λ t a. weaker (Kept t) (Kept s) (λ u b h. b (a h)) (next t) (later t)) script first

  kept_for : (s : Standing) (k : ℕ) (o : Option Peer) (work : Peer → OfPeer) → (k ≡ key → (p : Peer) → o ≡ Some p → Always (λ q. Instead s (Some q)) (work p)) → Always (Kept s) (ev.for_peer s k o work)
  kept_for s k o work each =
      one_then (λ (r : Option Peer). k ≡ key → Instead s r) (Kept s) (λ r. Gives (with_peer s k r)) (λ r instead. kept_with s s k r (kept_none s) instead) (ev.for_entry o work) (entry o each)
    where
      entry : (x : Option Peer) → (k ≡ key → (p : Peer) → x ≡ Some p → Always (λ q. Instead s (Some q)) (work p)) → Always (λ (r : Option Peer). k ≡ key → Instead s r) (ev.for_entry x work)
      entry None h = λ same has. tt
      entry (Some p) h =
          one_then (λ (q : Peer). k ≡ key → Instead s (Some q)) (λ (r : Option Peer). k ≡ key → Instead s r) (λ q. Gives (Some q)) (λ q instead. instead) (work p)
          (
          elim (cases_eq k key) [
            | inl same ↦ weaker (λ (q : Peer). Instead s (Some q)) (λ (q : Peer). k ≡ key → Instead s (Some q)) (λ q instead e. instead) (work p) (h same p refl)
            | inr apart ↦ whatever (λ (q : Peer). k ≡ key → Instead s (Some q)) (λ q e. absurd (apart e)) (work p)
          ]
          )

  kept_apart : (s : Standing) (k : ℕ) (o : Option Peer) (work : Peer → OfPeer) → k ≢ key → Always (Kept s) (ev.for_peer s k o work)
  kept_apart s k o work apart = kept_for s k o work (λ same. absurd (apart same))

  kept_fate : (s : Standing) (k : ℕ) (p : Peer) (end : PeerFate) → Instead s (Some p) → Always (λ q. Instead s (Some q)) (ev.after_serving k end p)
  kept_fate s k p fate.Stays instead = instead
  kept_fate s k p fate.Watches instead = instead
  kept_fate s k p (fate.Closes why) instead = λ has speaks. absurd speaks

  work_kept : (s : Standing) (k : ℕ) (work : OfFate) → Always (Kept s) (ev.work_for s k work)
  work_kept s k work = by_peer (peer_at s k) refl
    where
      by_stage : (p : Peer) (stage : Stage) → peer_at s k ≡ Some p → Always (Kept s) (ev.work_in s k p stage work)
      by_stage p (Authenticating setting state) is = kept_none s
      by_stage p (Unnamed privileged) is = kept_none s
      by_stage p (Closing conn) is = kept_none s
      by_stage p (Named conn) is =
          kept_for s k (Some p) (λ q. and_then work (λ end. ev.after_serving k end q))
          (λ same q e.
          let here : Instead s (Some q) = λ has. subst (λ (o : Option Peer). HasOf Such o) e (subst (λ (o : Option Peer). HasOf Such o) is (subst (λ (n : ℕ). HasOf Such (peer_at s n)) (sym same) has)) in
          then_whatever (λ (r : Peer). Instead s (Some r)) work (λ end. ev.after_serving k end q) (λ end. kept_fate s k q end here))

      by_peer : (o : Option Peer) → peer_at s k ≡ o → Always (Kept s) (ev.work_at s k o work)
      by_peer None is = kept_none s
      by_peer (Some p) is = by_stage p p.stage is

  each_kept : (joints : List Joint) (s : Standing) → Always (Kept s) (ev.making_each joints s)
  each_kept [] s = kept_none s
  each_kept (j ∷ joints) s = kept_then s (ev.work_for s j.key _) (λ t. ev.making_each joints t) (work_kept s j.key _) (λ t. each_kept joints t)

  answers_kept : (joints : List Joint) (outcomes : List Outcome) (s : Standing) → Always (Kept s) (ev.answering_each joints outcomes s)
  answers_kept [] outcomes s = kept_none s
  answers_kept (j ∷ joints) [] s = kept_none s
  answers_kept (j ∷ joints) (o ∷ outcomes) s = kept_then s (ev.work_for s j.key _) (λ t. ev.answering_each joints outcomes t) (work_kept s j.key _) (λ t. answers_kept joints outcomes t)

  changes_kept : (joints : List Joint) (s : Standing) (heard : Heard (List Outcome)) → Always (Kept s) (ev.after_changes joints s heard)
  changes_kept joints s (Says outcomes) = answers_kept joints outcomes s
  changes_kept joints s (Refuses refusal) = each_kept joints s

  made_if : (joints : List Joint) (s : Standing) (granted : Bool) → Always (Kept s) (ev.making_if joints s granted)
  made_if joints s true = λ heard. changes_kept joints s heard
  made_if joints s false = each_kept joints s

  pub all_kept : (joints : List Joint) (s : Standing) → Always (Kept s) (ev.making_all joints s)
  all_kept [] s = kept_none s
  all_kept (j ∷ []) s = each_kept (j ∷ []) s
  all_kept (j ∷ k ∷ joints) s = λ granted. made_if (j ∷ k ∷ joints) s granted

  former_kept : (s : Standing) (conn : Conn) → Always (Kept s) (ev.closing_former s conn)
  former_kept s conn = by_found (position (has_slot conn.slot) s.peers)
    where
      by_found : (found : Option ℕ) → Always (Kept s) (ev.closing_if_found s found)
      by_found None = kept_none s
      by_found (Some k) = kept_for s k (peer_at s k) (λ p. ev.closing k cause.Left p) (λ same p is has speaks. absurd speaks)

  -- ## The next message of another connection

  module _ (k : ℕ) (apart : k ≢ key) where
    other : (s : Standing) (p : Peer) (work : Peer → OfPeer) → Always (Kept s) (ev.for_peer s k (Some p) work)
    other s p work = kept_apart s k (Some p) work apart

    greeting_kept : (m : Message) (p : Peer) (o : Outcome) (conn : Conn) (t : Standing) → Always (Kept t) (ev.greeting k m p o conn t)
    greeting_kept m p o conn t =
        then_whatever (Kept t) (replying m conn (UniqueName conn.number)) _ (λ done. kept_with t t k (Some (record p { stage = Named conn })) (kept_none t) (λ same. absurd (apart same)))

    hello_by_kept : (s : Standing) (m : Message) (p : Peer) (o : Outcome) (r : Reply) → Always (Kept s) (ev.after_hello_by s k m p o r)
    hello_by_kept s m p o (reply.Welcome conn) = kept_then s (ev.closing_former s conn) (λ t. ev.greeting k m p o conn t) (former_kept s conn) (λ t. greeting_kept m p o conn t)
    hello_by_kept s m p o reply.LimitsExceeded = other s p (ev.dismissal k m)
    hello_by_kept s m p o reply.Gone = other s p (ev.dismissal k m)
    hello_by_kept s m p o reply.Done = other s p (ev.dismissal k m)
    hello_by_kept s m p o (reply.OfQueue r) = other s p (ev.dismissal k m)
    hello_by_kept s m p o reply.InvalidName = other s p (ev.dismissal k m)
    hello_by_kept s m p o reply.RuleNotFound = other s p (ev.dismissal k m)
    hello_by_kept s m p o reply.AccessDenied = other s p (ev.dismissal k m)
    hello_by_kept s m p o reply.AlreadyRunning = other s p (ev.dismissal k m)
    hello_by_kept s m p o (reply.Held ticket) = other s p (ev.dismissal k m)
    hello_by_kept s m p o reply.ServiceUnknown = other s p (ev.dismissal k m)
    hello_by_kept s m p o (reply.Pass owner) = other s p (ev.dismissal k m)
    hello_by_kept s m p o reply.Ignored = other s p (ev.dismissal k m)

    hello_kept : (s : Standing) (m : Message) (p : Peer) (heard : Heard Outcome) → Always (Kept s) (ev.after_hello s k m p heard)
    hello_kept s m p (Refuses refusal) = other s p (ev.refusing_hello k m (error_for refusal))
    hello_kept s m p (Says o) = hello_by_kept s m p o o.reply

    named_kept : (s : Standing) (m : Message) (p : Peer) (conn : Conn) (watches : Bool) → Always (Kept s) (ev.serving_named s k m p conn watches)
    named_kept s m p conn true = other s p (ev.closing k cause.MonitorSent)
    named_kept s m p conn false = other s p (λ q. and_then (serving m conn) (λ end. ev.after_serving k end q))

    serving_kept : (s : Standing) (m : Message) (p : Peer) (stage : Stage) → Always (Kept s) (ev.serving_at s k m p stage)
    serving_kept s m p (Authenticating setting state) = kept_none s
    serving_kept s m p (Unnamed privileged) = by_test (Kept s) (is_hello m) _ _ (λ heard. hello_kept s m p heard) (other s p (ev.closing k cause.NotHello))
    serving_kept s m p (Named conn) = named_kept s m p conn p.watches
    serving_kept s m p (Closing conn) = kept_none s

    incoming_kept : (s : Standing) (p : Peer) (incoming : Incoming) → Always (Kept s) (ev.serving_incoming s k p incoming)
    incoming_kept s p Waits = kept_none s
    incoming_kept s p (Faulty fault) = other s p (ev.closing k (cause.Faulty fault))
    incoming_kept s p (Whole bytes rest) = serving_kept s (message_said bytes) (record p { unread = rest }) p.stage

    next_kept : (s : Standing) (o : Option Peer) → Always (Kept s) (ev.serving_next s k o)
    next_kept s None = kept_none s
    next_kept s (Some p) = by_stage p.stage
      where
        by_stage : (stage : Stage) → Always (Kept s) (ev.next_at s k p stage)
        by_stage (Authenticating setting state) = kept_none s
        by_stage (Unnamed privileged) = λ incoming. incoming_kept s p incoming
        by_stage (Named conn) = λ incoming. incoming_kept s p incoming
        by_stage (Closing conn) = kept_none s

  -- ## Turns

  abbrev pub Gathers : Standing → ev.Gathered → Type 0
  Gathers s g = Kept s g.standing

  joints_kept : (joints : List Joint) (s : Standing) (work : Standing → Stands) → ((t : Standing) → Always (Kept t) (work t)) → Always (Gathers s) (ev.after_joints joints s work)
  joints_kept joints s work each =
      one_then (Kept s) (Gathers s) (λ t. and_then (work t) (λ u. ev.gathering_of_one [] u))
      (λ t a. one_then (Kept s) (Gathers s) (λ u. ev.gathering_of_one [] u) (λ u b. b) (work t) (weaker (Kept t) (Kept s) (λ u b h. b (a h)) (work t) (each t)))
      (ev.making_all joints s) (all_kept joints s)

  pub joining_kept : (joints : List Joint) (s : Standing) (j : Joint) (it : Joining) → Always (Gathers s) (ev.after_joining joints s j it)
  joining_kept joints s j Joins = kept_none s
  joining_kept joints s j (Parts work) = joints_kept joints s (λ t. ev.work_for t j.key work) (λ t. work_kept t j.key work)

  module _ (k : ℕ) (apart : k ≢ key) where
    apart_kept : (joints : List Joint) (s : Standing) → Always (Gathers s) (ev.serving_apart joints s k)
    apart_kept joints s = joints_kept joints s (λ t. ev.serving_next t k (peer_at t k)) (λ t. next_kept k apart t (peer_at t k))

    call_kept : (joints : List Joint) (s : Standing) (message : List ℕ) (p : Peer) (conn : Conn) (c : RuleCall) → Always (Gathers s) (ev.joining_call joints s k message p conn c)
    call_kept joints s message p conn c =
        let taken : Standing = with_peer s k (Some p) in
        let j : Joint = record { key = k; message = message; caller = conn; call = c } in
        let kept : Kept s taken = kept_with s s k (Some p) (kept_none s) (λ same. absurd (apart same)) in
        then_whatever (Gathers s) (joining (message_said message) conn c) (λ it. ev.after_joining joints taken j it)
        (λ it. weaker (Gathers taken) (Gathers s) (λ g b h. b (kept h)) (ev.after_joining joints taken j it) (joining_kept joints taken j it))

    reading_kept : (joints : List Joint) (s : Standing) (message : List ℕ) (p : Peer) (conn : Conn) (read : Option RuleCall) → Always (Gathers s) (ev.joining_reading joints s k message p conn read)
    reading_kept joints s message p conn None = apart_kept joints s
    reading_kept joints s message p conn (Some c) = call_kept joints s message p conn c

    join_kept : (joints : List Joint) (s : Standing) (message : List ℕ) (p : Peer) (conn : Conn) (granted : Bool) → Always (Gathers s) (ev.joining_if joints s k message p conn granted)
    join_kept joints s message p conn true = λ reading. reading_kept joints s message p conn (rule_call reading)
    join_kept joints s message p conn false = apart_kept joints s

    message_kept : (joints : List Joint) (s : Standing) (message : List ℕ) (p : Peer) (conn : Conn) (watches : Bool) → Always (Gathers s) (ev.gathering_message joints s k message p conn watches)
    message_kept joints s message p conn true = apart_kept joints s
    message_kept joints s message p conn false =
        by_test (Gathers s) (may_join (message_said message)) _ _ (λ granted. join_kept joints s message p conn granted) (apart_kept joints s)

    gathered_kept : (joints : List Joint) (s : Standing) (p : Peer) (conn : Conn) (incoming : Incoming) → Always (Gathers s) (ev.gathering_incoming joints s k p conn incoming)
    gathered_kept joints s p conn Waits = kept_none s
    gathered_kept joints s p conn (Faulty fault) = apart_kept joints s
    gathered_kept joints s p conn (Whole bytes rest) = message_kept joints s bytes (record p { unread = rest }) conn p.watches

    gathered_apart : (joints : List Joint) (s : Standing) (incoming : Incoming) → Always (Gathers s) (ev.serving_incoming_apart joints s k incoming)
    gathered_apart joints s Waits = kept_none s
    gathered_apart joints s (Faulty fault) = apart_kept joints s
    gathered_apart joints s (Whole bytes rest) = apart_kept joints s

    pub gathering_kept : (joints : List Joint) (s : Standing) (o : Option Peer) → Always (Gathers s) (ev.gathering joints s k o)
    gathering_kept joints s None = kept_none s
    gathering_kept joints s (Some p) = by_stage p.stage
      where
        by_stage : (stage : Stage) → Always (Gathers s) (ev.gathering_at joints s k p stage)
        by_stage (Named conn) = λ incoming. gathered_kept joints s p conn incoming
        by_stage (Unnamed privileged) = λ incoming. gathered_apart joints s incoming
        by_stage (Authenticating setting state) = kept_none s
        by_stage (Closing conn) = kept_none s
