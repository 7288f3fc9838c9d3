-- How connections go on at each event that is not of them.
use Rattle.std.proofs.Common.{◌≡◌, ℕ, zero, suc, Bool, true, false, Option, Some, None, List, [], ◌∷◌, ◌++◌, length, get_or, position, eqb, refl, sym, ap, ◌∙◌, subst, true≢false}
use Rattle.std.proofs.lemmas.List.Quantifiers.{position-Some}
use mathlib.Core.List.{append-nil}
use Rattle.seq_bus_core.specs.Histories.{History}
use Rattle.seq_bus_core.specs.declared.connection.Conn.{Conn}
use Rattle.seq_bus_core.specs.declared.error_kind.ErrorKind.{ErrorKind}
use Rattle.seq_bus_core.specs.declared.error_kind.ErrorKind.TheVariants as error
use Rattle.seq_bus_core.specs.declared.outcome.Outcome.{Outcome}
use Rattle.seq_bus_core.specs.declared.outcome.Reply.{Reply}
use Rattle.seq_bus_core.specs.declared.outcome.Reply.TheVariants as reply
use Rattle.seq_bus_core.specs.Batches.{max_batch}
use Rattle.message_core.specs.Messages.{Message}
use Rattle.message_core.specs.Said.{said as message_said}
use Rattle.driver.specs.Calls.{expects_reply, is_hello}
use Rattle.outbox_core.specs.Contents.{Said, Relays, Tells, Own, Errs, UniqueName}
use Rattle.router_core.specs.declared.cause.CloseCause.{CloseCause}
use Rattle.router_core.specs.declared.cause.CloseCause.TheVariants as cause
use Rattle.router_core.specs.declared.fate.PeerFate.{PeerFate}
use Rattle.router_core.specs.declared.fate.PeerFate.TheVariants as fate
use Rattle.router_core.specs.declared.joint.Joint.{Joint}
use Rattle.router_core.specs.declared.joint.RuleCall.{RuleCall}
use Rattle.router_core.specs.declared.start_end.StartEnd.{StartEnd}
use Rattle.router_core.specs.Answers.{Heard, Says, Refuses, error_for}
use Rattle.router_core.specs.Events as ev
use Rattle.router_core.specs.Incoming.{Incoming, Waits, Whole, Faulty}
use Rattle.router_core.specs.Scripts.{Gives, Announcing, and_then}
use Rattle.router_core.specs.Serving.{OfFate, replying, serving, monitors_in, failing_all}
use Rattle.router_core.specs.Standing.{Stage, Authenticating, Unnamed, Named, Closing, Peer, Standing, peer_at, with_peer, conn_of, has_slot, is_conn, next_serial}
use Rattle.router_core.specs.Together.{Joining, Joins, Parts, joining, may_join, rule_call}
use Rattle.router_laws.proofs.Results.{Always, by_test, put_before, one_then, weaker, then_whatever}
use Rattle.router_laws.proofs.Stages.{MaySpeak, Passes, as_it_was, has_name, was_closed, stays, PassesAt, at_rest, at_then, at_one, Ahead, ahead_same, ahead_none, ahead_both, ahead_with, ahead_then, for_one, for_here}

-- ## Who is found

served_conn : (slot number : ℕ) (p : Peer) → is_conn slot number (Some p) ≡ true → MaySpeak p.stage
served_conn slot number p found = by_stage p.stage refl
  where
    by_stage : (stage : Stage) → p.stage ≡ stage → MaySpeak p.stage
    by_stage (Authenticating setting state) is = let no : is_conn slot number (Some p) ≡ false = rw is refl in absurd (true≢false (sym found ∙ no))
    by_stage (Unnamed privileged) is = let no : is_conn slot number (Some p) ≡ false = rw is refl in absurd (true≢false (sym found ∙ no))
    by_stage (Named conn) is = subst (λ (s : Stage). MaySpeak s) (sym is) tt
    by_stage (Closing conn) is = let no : is_conn slot number (Some p) ≡ false = rw is refl in absurd (true≢false (sym found ∙ no))

served_slot : (slot : ℕ) (p : Peer) → has_slot slot (Some p) ≡ true → MaySpeak p.stage
served_slot slot p found = by_stage p.stage refl
  where
    by_stage : (stage : Stage) → p.stage ≡ stage → MaySpeak p.stage
    by_stage (Authenticating setting state) is = let no : has_slot slot (Some p) ≡ false = rw is refl in absurd (true≢false (sym found ∙ no))
    by_stage (Unnamed privileged) is = let no : has_slot slot (Some p) ≡ false = rw is refl in absurd (true≢false (sym found ∙ no))
    by_stage (Named conn) is = subst (λ (s : Stage). MaySpeak s) (sym is) tt
    by_stage (Closing conn) is = let no : has_slot slot (Some p) ≡ false = rw is refl in absurd (true≢false (sym found ∙ no))

-- who stands at the first place that passes a test
found_at : (test : Option Peer → Bool) (s : Standing) (key : ℕ) (p : Peer) → position test s.peers ≡ Some key → peer_at s key ≡ Some p → test (Some p) ≡ true
found_at test s key p found here = ap test (sym here) ∙ (position-Some test s.peers key None found).1

-- ## One connection

closed : (key : ℕ) (why : CloseCause) (p : Peer) → MaySpeak p.stage → Always (Passes p) (ev.closing key why p)
closed key why p served = was_closed (conn_of p.stage) served refl

fated : (key : ℕ) (p : Peer) (end : PeerFate) → MaySpeak p.stage → Always (Passes p) (ev.after_serving key end p)
fated key p fate.Stays served = as_it_was refl
fated key p fate.Watches served = stays p (record p { watches = true }) served refl
fated key p (fate.Closes why) served = closed key why p served

worked : (s : Standing) (key : ℕ) (p : Peer) (work : OfFate) → PassesAt (peer_at s key) (Some p) → MaySpeak p.stage →
    Always (Ahead s) (ev.for_peer s key (Some p) (λ q. and_then work (λ end. ev.after_serving key end q)))
worked s key p work here served =
    for_one s key p (λ q. and_then work (λ end. ev.after_serving key end q)) here (then_whatever (Passes p) work (λ end. ev.after_serving key end p) (λ end. fated key p end served))

-- ## Hello

abbrev SameStage : Peer → Peer → Type 0
SameStage p q = q.stage ≡ p.stage

refused : (key : ℕ) (m : Message) (kind : ErrorKind) (p : Peer) → Always (SameStage p) (ev.refusing_hello key m kind p)
refused key m kind p =
    let own : Own = Errs (record { caller = None; call = m.serial }) kind in
    let numbered : Peer = record p { serial = next_serial p.serial } in
    by_test (SameStage p) (expects_reply m) _ (Gives p) (λ heard. put_before (SameStage p) (monitors_in heard) (Tells own) (Gives numbered) refl) refl

dismissed : (key : ℕ) (m : Message) (p : Peer) → MaySpeak p.stage → Always (Passes p) (ev.dismissal key m p)
dismissed key m p served =
    one_then (SameStage p) (Passes p) (λ q. ev.closing key cause.LimitsExceeded q) (λ q same. was_closed (conn_of q.stage) served refl) (ev.refusing_hello key m error.LimitsExceeded p) (refused key m error.LimitsExceeded p)

former_passes : (s : Standing) (conn : Conn) → Always (Ahead s) (ev.closing_former s conn)
former_passes s conn = by_found (position (has_slot conn.slot) s.peers) refl
  where
    by_found : (found : Option ℕ) → position (has_slot conn.slot) s.peers ≡ found → Always (Ahead s) (ev.closing_if_found s found)
    by_found None is = ahead_none s
    by_found (Some key) is =
        for_here s key (peer_at s key) (λ p. ev.closing key cause.Left p) refl
        (λ p here. closed key cause.Left p (served_slot conn.slot p (found_at (has_slot conn.slot) s key p is here)))

module _ (s : Standing) (key : ℕ) (m : Message) (p : Peer) (here : PassesAt (peer_at s key) (Some p)) (served : MaySpeak p.stage) where
  dismissal_passes : Always (Ahead s) (ev.for_peer s key (Some p) (ev.dismissal key m))
  dismissal_passes = for_one s key p (ev.dismissal key m) here (dismissed key m p served)

  refusal_passes : (kind : ErrorKind) → Always (Ahead s) (ev.for_peer s key (Some p) (ev.refusing_hello key m kind))
  refusal_passes kind = for_one s key p (ev.refusing_hello key m kind) here (weaker (SameStage p) (Passes p) (λ q same. stays p q served same) (ev.refusing_hello key m kind p) (refused key m kind p))

  greeting_passes : (o : Outcome) (conn : Conn) (t : Standing) → Ahead s t → Always (Ahead s) (ev.greeting key m p o conn t)
  greeting_passes o conn t a =
      let named : Peer = record p { stage = Named conn } in
      then_whatever (Ahead s) (replying m conn (UniqueName conn.number)) (λ done. Announcing o.signals (Gives (with_peer t key (Some named))))
      (λ done. ahead_with s t key (Some named) a (at_then (peer_at s key) (Some p) (Some named) here (at_one p named (has_name conn served refl))))

  hello_by_passes : (o : Outcome) (r : Reply) → Always (Ahead s) (ev.after_hello_by s key m p o r)
  hello_by_passes o (reply.Welcome conn) = one_then (Ahead s) (Ahead s) (λ t. ev.greeting key m p o conn t) (λ t a. greeting_passes o conn t a) (ev.closing_former s conn) (former_passes s conn)
  hello_by_passes o reply.LimitsExceeded = dismissal_passes
  hello_by_passes o reply.Gone = dismissal_passes
  hello_by_passes o reply.Done = dismissal_passes
  hello_by_passes o (reply.OfQueue r) = dismissal_passes
  hello_by_passes o reply.InvalidName = dismissal_passes
  hello_by_passes o reply.RuleNotFound = dismissal_passes
  hello_by_passes o reply.AccessDenied = dismissal_passes
  hello_by_passes o reply.AlreadyRunning = dismissal_passes
  hello_by_passes o (reply.Held ticket) = dismissal_passes
  hello_by_passes o reply.ServiceUnknown = dismissal_passes
  hello_by_passes o (reply.Pass owner) = dismissal_passes
  hello_by_passes o reply.Ignored = dismissal_passes

  hello_passes : (heard : Heard Outcome) → Always (Ahead s) (ev.after_hello s key m p heard)
  hello_passes (Refuses refusal) = refusal_passes (error_for refusal)
  hello_passes (Says o) = hello_by_passes o o.reply

  -- ## The next message

  named_passes : (conn : Conn) (watches : Bool) → Always (Ahead s) (ev.serving_named s key m p conn watches)
  named_passes conn true = for_one s key p (ev.closing key cause.MonitorSent) here (closed key cause.MonitorSent p served)
  named_passes conn false = worked s key p (serving m conn) here served

serving_passes : (s : Standing) (key : ℕ) (m : Message) (p : Peer) (stage : Stage) → PassesAt (peer_at s key) (Some p) → p.stage ≡ stage → Always (Ahead s) (ev.serving_at s key m p stage)
serving_passes s key m p (Authenticating setting state) here is = ahead_none s
serving_passes s key m p (Unnamed privileged) here is =
    let served : MaySpeak p.stage = subst (λ (x : Stage). MaySpeak x) (sym is) tt in
    by_test (Ahead s) (is_hello m) _ _ (λ heard. hello_passes s key m p here served heard) (for_one s key p (ev.closing key cause.NotHello) here (closed key cause.NotHello p served))
serving_passes s key m p (Named conn) here is =
    let served : MaySpeak p.stage = subst (λ (x : Stage). MaySpeak x) (sym is) tt in
    named_passes s key m p here served conn p.watches
serving_passes s key m p (Closing conn) here is = ahead_none s

pub next_passes : (s : Standing) (key : ℕ) (peer : Option Peer) → peer_at s key ≡ peer → Always (Ahead s) (ev.serving_next s key peer)
next_passes s key None is = ahead_none s
next_passes s key (Some p) is = by_stage p.stage refl
  where
    here : PassesAt (peer_at s key) (Some p)
    here = subst (λ (o : Option Peer). PassesAt o (Some p)) (sym is) (at_rest (Some p))

    framed : MaySpeak p.stage → (incoming : Incoming) → Always (Ahead s) (ev.serving_incoming s key p incoming)
    framed served Waits = ahead_none s
    framed served (Faulty fault) = for_one s key p (ev.closing key (cause.Faulty fault)) here (closed key (cause.Faulty fault) p served)
    framed served (Whole bytes rest) =
        let q : Peer = record p { unread = rest } in
        serving_passes s key (message_said bytes) q p.stage (at_then (peer_at s key) (Some p) (Some q) here (at_one p q (stays p q served refl))) refl

    by_stage : (stage : Stage) → p.stage ≡ stage → Always (Ahead s) (ev.next_at s key p stage)
    by_stage (Authenticating setting state) is = ahead_none s
    by_stage (Unnamed privileged) is = λ incoming. framed (subst (λ (x : Stage). MaySpeak x) (sym is) tt) incoming
    by_stage (Named conn) is = λ incoming. framed (subst (λ (x : Stage). MaySpeak x) (sym is) tt) incoming
    by_stage (Closing conn) is = ahead_none s

-- ## Turns

work_passes : (s : Standing) (key : ℕ) (work : OfFate) → Always (Ahead s) (ev.work_for s key work)
work_passes s key work = by_peer (peer_at s key) refl
  where
    by_stage : (p : Peer) (stage : Stage) → peer_at s key ≡ Some p → p.stage ≡ stage → Always (Ahead s) (ev.work_in s key p stage work)
    by_stage p (Named conn) here is =
        worked s key p work (subst (λ (o : Option Peer). PassesAt o (Some p)) (sym here) (at_rest (Some p))) (subst (λ (x : Stage). MaySpeak x) (sym is) tt)
    by_stage p (Authenticating setting state) here is = ahead_none s
    by_stage p (Unnamed privileged) here is = ahead_none s
    by_stage p (Closing conn) here is = ahead_none s

    by_peer : (peer : Option Peer) → peer_at s key ≡ peer → Always (Ahead s) (ev.work_at s key peer work)
    by_peer None is = ahead_none s
    by_peer (Some p) is = by_stage p p.stage is refl

each_passes : (joints : List Joint) (s : Standing) → Always (Ahead s) (ev.making_each joints s)
each_passes [] s = ahead_none s
each_passes (j ∷ joints) s = ahead_then s (ev.work_for s j.key _) (λ t. ev.making_each joints t) (work_passes s j.key _) (λ t. each_passes joints t)

answers_pass : (joints : List Joint) (outcomes : List Outcome) (s : Standing) → Always (Ahead s) (ev.answering_each joints outcomes s)
answers_pass [] outcomes s = ahead_none s
answers_pass (j ∷ joints) [] s = ahead_none s
answers_pass (j ∷ joints) (o ∷ outcomes) s = ahead_then s (ev.work_for s j.key _) (λ t. ev.answering_each joints outcomes t) (work_passes s j.key _) (λ t. answers_pass joints outcomes t)

changes_pass : (joints : List Joint) (s : Standing) (heard : Heard (List Outcome)) → Always (Ahead s) (ev.after_changes joints s heard)
changes_pass joints s (Says outcomes) = answers_pass joints outcomes s
changes_pass joints s (Refuses refusal) = each_passes joints s

made_if : (joints : List Joint) (s : Standing) (granted : Bool) → Always (Ahead s) (ev.making_if joints s granted)
made_if joints s true = λ heard. changes_pass joints s heard
made_if joints s false = each_passes joints s

pub all_pass : (joints : List Joint) (s : Standing) → Always (Ahead s) (ev.making_all joints s)
all_pass [] s = ahead_none s
all_pass (j ∷ []) s = each_passes (j ∷ []) s
all_pass (j ∷ k ∷ joints) s = λ granted. made_if (j ∷ k ∷ joints) s granted

abbrev pub Gathers : Standing → ev.Gathered → Type 0
Gathers s g = Ahead s g.standing

joints_pass : (joints : List Joint) (s : Standing) (work : Standing → ev.Stands) → ((t : Standing) → Always (Ahead t) (work t)) → Always (Gathers s) (ev.after_joints joints s work)
joints_pass joints s work each =
    one_then (Ahead s) (Gathers s) (λ t. and_then (work t) (λ u. ev.gathering_of_one [] u))
    (λ t a. one_then (Ahead s) (Gathers s) (λ u. ev.gathering_of_one [] u) (λ u b. b) (work t) (weaker (Ahead t) (Ahead s) (λ u b. ahead_both s t u a b) (work t) (each t)))
    (ev.making_all joints s) (all_pass joints s)

apart_passes : (joints : List Joint) (s : Standing) (key : ℕ) → Always (Gathers s) (ev.serving_apart joints s key)
apart_passes joints s key = joints_pass joints s (λ t. ev.serving_next t key (peer_at t key)) (λ t. next_passes t key (peer_at t key) refl)

module _ (joints : List Joint) (s : Standing) (key : ℕ) (message : List ℕ) (p : Peer) (here : PassesAt (peer_at s key) (Some p)) (conn : Conn) where
  call_passes : (c : RuleCall) → Always (Gathers s) (ev.joining_call joints s key message p conn c)
  call_passes c = then_whatever (Gathers s) (joining (message_said message) conn c) (λ it. ev.after_joining joints taken j it) by_joining
    where
      taken : Standing
      taken = with_peer s key (Some p)

      j : Joint
      j = record { key = key; message = message; caller = conn; call = c }

      ahead : Ahead s taken
      ahead = ahead_with s s key (Some p) (ahead_none s) here

      by_joining : (it : Joining) → Always (Gathers s) (ev.after_joining joints taken j it)
      by_joining Joins = ahead
      by_joining (Parts work) =
          weaker (Gathers taken) (Gathers s) (λ g b. ahead_both s taken g.standing ahead b) (ev.after_joints joints taken (λ t. ev.work_for t key work))
          (joints_pass joints taken (λ t. ev.work_for t key work) (λ t. work_passes t key work))

  reading_passes : (read : Option RuleCall) → Always (Gathers s) (ev.joining_reading joints s key message p conn read)
  reading_passes None = apart_passes joints s key
  reading_passes (Some c) = call_passes c

  join_passes : (granted : Bool) → Always (Gathers s) (ev.joining_if joints s key message p conn granted)
  join_passes true = λ reading. reading_passes (rule_call reading)
  join_passes false = apart_passes joints s key

  message_passes : (watches : Bool) → Always (Gathers s) (ev.gathering_message joints s key message p conn watches)
  message_passes true = apart_passes joints s key
  message_passes false = by_test (Gathers s) (may_join (message_said message)) _ _ (λ granted. join_passes granted) (apart_passes joints s key)

pub gathering_passes : (joints : List Joint) (s : Standing) (key : ℕ) (peer : Option Peer) → peer_at s key ≡ peer → Always (Gathers s) (ev.gathering joints s key peer)
gathering_passes joints s key None is = ahead_none s
gathering_passes joints s key (Some p) is = by_stage p.stage refl
  where
    here : PassesAt (peer_at s key) (Some p)
    here = subst (λ (o : Option Peer). PassesAt o (Some p)) (sym is) (at_rest (Some p))

    framed : (conn : Conn) → MaySpeak p.stage → (incoming : Incoming) → Always (Gathers s) (ev.gathering_incoming joints s key p conn incoming)
    framed conn served Waits = ahead_none s
    framed conn served (Faulty fault) = apart_passes joints s key
    framed conn served (Whole bytes rest) =
        let q : Peer = record p { unread = rest } in
        message_passes joints s key bytes q (at_then (peer_at s key) (Some p) (Some q) here (at_one p q (stays p q served refl))) conn p.watches

    framed_apart : (incoming : Incoming) → Always (Gathers s) (ev.serving_incoming_apart joints s key incoming)
    framed_apart Waits = ahead_none s
    framed_apart (Faulty fault) = apart_passes joints s key
    framed_apart (Whole bytes rest) = apart_passes joints s key

    by_stage : (stage : Stage) → p.stage ≡ stage → Always (Gathers s) (ev.gathering_at joints s key p stage)
    by_stage (Named conn) is = λ incoming. framed conn (subst (λ (x : Stage). MaySpeak x) (sym is) tt) incoming
    by_stage (Unnamed privileged) is = λ incoming. framed_apart incoming
    by_stage (Authenticating setting state) is = ahead_none s
    by_stage (Closing conn) is = ahead_none s

gathered_then : (s : Standing) (g : ev.Gathered) (script : ev.Stands) → Gathers s g → Always (Ahead g.standing) script → Always (Ahead s) script
gathered_then s g script a h = weaker (Ahead g.standing) (Ahead s) (λ u b. ahead_both s g.standing u a b) script h

turn_if : (joints : List Joint) (s : Standing) (goes_on : ev.Stands) (granted : Bool) → Always (Ahead s) goes_on → Always (Ahead s) (ev.turning_if joints s goes_on granted)
turn_if joints s goes_on true h = h
turn_if joints s goes_on false h = all_pass joints s

pub turn_passes : (joints : List Joint) (keys : List ℕ) (begun : Bool) (s : Standing) → Always (Ahead s) (ev.turning joints keys begun s)
turn_passes joints [] begun s = all_pass joints s
turn_passes joints (key ∷ keys) false s =
    one_then (Gathers s) (Ahead s) (λ g. ev.turning g.joints keys g.served g.standing)
    (λ g a. gathered_then s g (ev.turning g.joints keys g.served g.standing) a (turn_passes g.joints keys g.served g.standing))
    (ev.gathering joints s key (peer_at s key)) (gathering_passes joints s key (peer_at s key) refl)
turn_passes joints (key ∷ keys) true s =
    let first = ev.gathering joints s key (peer_at s key) in
    let next : ev.Gathered → ev.Stands = λ g. ev.turning g.joints keys true g.standing in
    λ granted. turn_if joints s (and_then first next) granted
    (one_then (Gathers s) (Ahead s) next (λ g a. gathered_then s g (next g) a (turn_passes g.joints keys true g.standing)) first (gathering_passes joints s key (peer_at s key) refl))

-- ## Mail

written : (key : ℕ) (said : Said) (p : Peer) → MaySpeak p.stage → Always (Passes p) (ev.writing key said p)
written key (Relays bytes) p served = as_it_was refl
written key (Tells own) p served = stays p (record p { serial = next_serial p.serial }) served refl

pub mail_passes : (s : Standing) (slot number : ℕ) (told : Option History) (said : Said) →
    Always (Ahead s) (ev.after_note told (ev.mail_delivery s said (position (is_conn slot number) s.peers)))
mail_passes s slot number told said = noted told (ev.mail_delivery s said (position (is_conn slot number) s.peers)) (by_found (position (is_conn slot number) s.peers) refl)
  where
    noted : (told : Option History) (script : ev.Stands) → Always (Ahead s) script → Always (Ahead s) (ev.after_note told script)
    noted None script h = h
    noted (Some told) script h = h

    by_found : (found : Option ℕ) → position (is_conn slot number) s.peers ≡ found → Always (Ahead s) (ev.mail_delivery s said found)
    by_found None is = ahead_none s
    by_found (Some key) is =
        for_here s key (peer_at s key) (ev.writing key said) refl
        (λ p here. written key said p (served_conn slot number p (found_at (is_conn slot number) s key p is here)))

-- ## Leaves

leave_heard : (s : Standing) (number : ℕ) (heard : Heard Outcome) → Always (Ahead s) (ev.after_leave s number heard)
leave_heard s number (Says o) = ahead_none s
leave_heard s number (Refuses refusal) = ahead_same s (record s { due_leaves = s.due_leaves ++ number ∷ [] }) refl refl

pub leave_passes : (s : Standing) (number : ℕ) → Always (Ahead s) (ev.leaving s number)
leave_passes s number = λ heard. leave_heard s number heard

leaves_each : (numbers : List ℕ) (s : Standing) → Always (Ahead s) (ev.leaving_each numbers s)
leaves_each [] s = ahead_none s
leaves_each (number ∷ numbers) s = ahead_then s (ev.leaving s number) (λ t. ev.leaving_each numbers t) (leave_passes s number) (λ t. leaves_each numbers t)

leaves_heard : (s : Standing) (numbers : List ℕ) (heard : Heard (List Outcome)) → Always (Ahead s) (ev.after_leaves s numbers heard)
leaves_heard s numbers (Says outcomes) = then_whatever (Ahead s) (ev.announcing_all outcomes) (λ done. Gives s) (λ done. ahead_none s)
leaves_heard s numbers (Refuses refusal) = leaves_each numbers s

leaves_if : (s : Standing) (numbers : List ℕ) (granted : Bool) → Always (Ahead s) (ev.leaving_if s numbers granted)
leaves_if s numbers true = λ heard. leaves_heard s numbers heard
leaves_if s numbers false = leaves_each numbers s

leaves_together : (s : Standing) (numbers : List ℕ) → Always (Ahead s) (ev.leaving_together s numbers)
leaves_together s [] = ahead_none s
leaves_together s (number ∷ numbers) = λ granted. leaves_if s (number ∷ numbers) granted

leaves_by : (gathered numbers : List ℕ) (s : Standing) → Always (Ahead s) (ev.leaving_by gathered numbers s)
leaves_by gathered [] s = leaves_together s gathered
leaves_by gathered (number ∷ numbers) s =
    by_test (Ahead s) (eqb (length gathered) max_batch) _ _
    (ahead_then s (ev.leaving_together s gathered) (λ t. ev.leaving_by (number ∷ []) numbers t) (leaves_together s gathered) (λ t. leaves_by (number ∷ []) numbers t))
    (leaves_by (gathered ++ number ∷ []) numbers s)

-- ## Time

abbrev PassAll : List (Option Peer) → List (Option Peer) → Type 0
PassAll os rs = (key : ℕ) → PassesAt (get_or os key None) (get_or rs key None)

replaced : (done : List (Option Peer)) (peer q : Option Peer) (peers : List (Option Peer)) → PassesAt peer q → PassAll (done ++ peer ∷ peers) (done ++ (q ∷ []) ++ peers)
replaced [] peer q peers h zero = h
replaced [] peer q peers h (suc key) = at_rest (get_or peers key None)
replaced (o ∷ done) peer q peers h zero = at_rest o
replaced (o ∷ done) peer q peers h (suc key) = replaced done peer q peers h key

presence_heard : (key : ℕ) (p : Peer) (heard : Heard Bool) → MaySpeak p.stage → Always (Passes p) (ev.after_check key p heard)
presence_heard key p (Says false) served = closed key cause.Left p served
presence_heard key p (Says true) served = as_it_was refl
presence_heard key p (Refuses refusal) served = as_it_was refl

presence_passes : (key : ℕ) (p : Peer) (stage : Stage) → p.stage ≡ stage → Always (Passes p) (ev.checking_presence key p stage)
presence_passes key p (Named conn) is = λ heard. presence_heard key p heard (subst (λ (x : Stage). MaySpeak x) (sym is) tt)
presence_passes key p (Authenticating setting state) is = as_it_was refl
presence_passes key p (Unnamed privileged) is = as_it_was refl
presence_passes key p (Closing conn) is = as_it_was refl

entry_passes : (key : ℕ) (peer : Option Peer) → Always (PassesAt peer) (ev.for_entry peer (λ p. ev.checking_presence key p p.stage))
entry_passes key None = refl
entry_passes key (Some p) =
    one_then (Passes p) (λ (o : Option Peer). PassesAt (Some p) o) (λ q. Gives (Some q)) (λ q h. at_one p q h) (ev.checking_presence key p p.stage) (presence_passes key p p.stage refl)

checks_pass : (done peers : List (Option Peer)) → Always (PassAll (done ++ peers)) (ev.checking_each done peers)
checks_pass done [] = λ key. subst (λ (os : List (Option Peer)). PassesAt (get_or os key None) (get_or done key None)) (sym (append-nil done)) (at_rest (get_or done key None))
checks_pass done (peer ∷ peers) =
    one_then (PassesAt peer) (PassAll (done ++ peer ∷ peers)) (λ q. ev.checking_each (done ++ q ∷ []) peers)
    (λ q h. weaker (PassAll (done ++ (q ∷ []) ++ peers)) (PassAll (done ++ peer ∷ peers))
    (λ rs all key. at_then (get_or (done ++ peer ∷ peers) key None) (get_or (done ++ (q ∷ []) ++ peers) key None) (get_or rs key None) (replaced done peer q peers h key) (all key))
    (ev.checking_each (done ++ q ∷ []) peers) (checks_pass (done ++ q ∷ []) peers))
    (ev.for_entry peer (λ p. ev.checking_presence (length done) p p.stage)) (entry_passes (length done) peer)

checking_passes : (s : Standing) → Always (Ahead s) (ev.checking_all s)
checking_passes s =
    one_then (PassAll s.peers) (Ahead s) (λ peers. Gives (record s { peers = peers })) (λ rs all. record { login = refl; each = all }) (ev.checking_each [] s.peers) (checks_pass [] s.peers)

pub tick_passes : (s : Standing) → Always (Ahead s) (ev.ticking s)
tick_passes s =
    let without : Standing = record s { due_leaves = [] } in
    ahead_then s (ev.leaving_all s.due_leaves without) ev.checking_all
    (weaker (Ahead without) (Ahead s) (λ u b. ahead_both s without u (ahead_same s without refl refl) b) (ev.leaving_all s.due_leaves without) (leaves_by [] s.due_leaves without))
    checking_passes

-- ## Starts that end

end_heard : (s : Standing) (e : StartEnd) (heard : Heard Outcome) → Always (Ahead s) (ev.after_end s e.how heard)
end_heard s e (Refuses refusal) = ahead_none s
end_heard s e (Says o) = then_whatever (Ahead s) (failing_all (ev.error_of_end e.how) o.tickets) (λ done. Gives s) (λ done. ahead_none s)

pub child_passes : (s : Standing) (e : StartEnd) → Always (Ahead s) (ev.ending_child s e)
child_passes s e = λ heard. end_heard s e heard
