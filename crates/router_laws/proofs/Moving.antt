-- More bytes of a connection change nothing of what is done for others.
use Rattle.std.proofs.Common.{◌≡◌, ◌≢◌, ◌+◌, ℕ, zero, suc, Bool, true, false, Option, Some, None, List, [], ◌∷◌, ◌++◌, length, get_or, set, map, eqb, inl, inr, if◌then◌else◌, refl, sym, ap, ◌∙◌, subst, arith}
use Rattle.std.proofs.lemmas.Bool.{cases_eq}
use Rattle.std.proofs.lemmas.List.{length-set, set-get_or}
use Rattle.std.specs.List.{position}
use Rattle.seq_bus_core.specs.Batches.{max_batch}
use Rattle.seq_bus_core.specs.Histories.{History}
use Rattle.seq_bus_core.specs.declared.change.Change.TheVariants.{Hello, Leave}
use Rattle.seq_bus_core.specs.declared.connection.Conn.{Conn}
use Rattle.seq_bus_core.specs.declared.outcome.Outcome.{Outcome}
use Rattle.seq_bus_core.specs.declared.outcome.Reply.{Reply}
use Rattle.seq_bus_core.specs.declared.outcome.Reply.TheVariants as reply
use Rattle.message_core.specs.Messages.{Message}
use Rattle.message_core.specs.Said.{said as message_said}
use Rattle.driver.specs.declared.call.Call.TheVariants as call
use Rattle.driver.specs.Calls.{is_hello}
use Rattle.outbox_core.specs.Contents.{UniqueName}
use Rattle.router_core.specs.declared.cause.CloseCause.TheVariants as cause
use Rattle.router_core.specs.declared.joint.Joint.{Joint}
use Rattle.router_core.specs.declared.joint.RuleCall.{RuleCall}
use Rattle.router_core.specs.declared.start_end.StartEnd.{StartEnd}
use Rattle.router_core.specs.declared.start_end.HowEnded.{HowEnded}
use Rattle.router_core.specs.Answers.{Heard, Says, Refuses, error_for}
use Rattle.router_core.specs.Events as ev
use Rattle.router_core.specs.Events.{Occasion, OfPeer, Stands, Opened, Bytes, Next, Turn, Mail, Closed, Full, Child, Tick}
use Rattle.router_core.specs.Incoming.{Incoming, Waits, Whole, Faulty}
use Rattle.router_core.specs.Scripts.{Script, Gives, Changing, ChangingAll, AskingPresence, Noting, Framing, Calling, Gating, Wanting, Announcing, and_then}
use Rattle.router_core.specs.Serving.{OfFate, replying, serving, failing_all}
use Rattle.router_core.specs.Standing.{Stage, Authenticating, Unnamed, Named, Closing, Peer, Standing, peer_at, with_peer, without_peer, with_newcomer, newcomer, first_stage, conn_of, trimmed, placed, is_conn}
use Rattle.router_core.specs.Together.{Joining, Joins, Parts, change_of_joint, joining, may_join, rule_call}
use Rattle.router_core.proofs.Trimmed.{get-trimmed, trimmed-set}
use Rattle.router_laws.specs.Logins.{is_of}
use Rattle.router_laws.proofs.Letting.{other_key}
use Rattle.router.proofs.Feeding.{Natural, after_same, and_then_assoc, close_former_more, closing_natural, here, mail_more, more, more_apart, more_if, peer_apart, peer_with_more, seen_as, set_apart, stage_same, there, with_more, work_natural}

-- ## One after the other

module _ {X Y : Type 0} (f : X → X) (g : Y → Y) where
  pub then_seen : (s now : Script X) (next later : X → Script Y) → now ≡ seen_as f s → ((x : X) → later (f x) ≡ seen_as g (next x)) → and_then now later ≡ seen_as g (and_then s next)
  then_seen s now next later same each =
      ap (λ (x : Script X). and_then x later) same
      ∙ and_then_assoc s (λ x. Gives (f x)) later
      ∙ after_same s (λ x. later (f x)) (λ x. seen_as g (next x)) each
      ∙ sym (and_then_assoc s next (λ y. Gives (g y)))

pub then_behind : {X Y : Type 0} (g : Y → Y) (s : Script X) (next later : X → Script Y) → ((x : X) → later x ≡ seen_as g (next x)) → and_then s later ≡ seen_as g (and_then s next)
then_behind g s next later each = after_same s later (λ x. seen_as g (next x)) each ∙ sym (and_then_assoc s next (λ y. Gives (g y)))

apart_from : (key k : ℕ) → eqb k key ≡ false → k ≢ key
apart_from key k not e = other_key key k not (sym e)

module _ (piece : List ℕ) (key : ℕ) where
  abbrev grow : Standing → Standing
  grow s = with_more piece key s

  -- the connections, one of which has more bytes
  abbrev grown_at : List (Option Peer) → ℕ → List (Option Peer)
  grown_at os at = set os at (more_if piece key (get_or os at None))

  -- it does the same, and leaves the same but for the bytes
  abbrev Same : (now before : Stands) → Type 0
  Same now before = now ≡ seen_as grow before

  -- ## What is done for a message

  work_here : (s : Standing) (work : OfFate) (o : Option Peer) → Same (ev.work_at (grow s) key (more_if piece key o) work) (ev.work_at s key o work)
  work_here s work None = refl
  work_here s work (Some p) =
      ap (λ (stage : Stage). ev.work_in (grow s) key (more piece key p) stage work) (stage_same piece key p p.stage) ∙ by_stage p.stage
    where
      by_stage : (stage : Stage) → Same (ev.work_in (grow s) key (more piece key p) stage work) (ev.work_in s key p stage work)
      by_stage (Named conn) = here piece key s (λ q. and_then work (λ fate. ev.after_serving key fate q)) (work_natural piece key key work) (Some p)
      by_stage (Authenticating setting state) = refl
      by_stage (Unnamed privileged) = refl
      by_stage (Closing conn) = refl

  work_there : (s : Standing) (k : ℕ) (work : OfFate) → k ≢ key → (o : Option Peer) → Same (ev.work_at (grow s) k o work) (ev.work_at s k o work)
  work_there s k work apart None = refl
  work_there s k work apart (Some p) = by_stage p.stage
    where
      by_stage : (stage : Stage) → Same (ev.work_in (grow s) k p stage work) (ev.work_in s k p stage work)
      by_stage (Named conn) = there piece key s k apart (λ q. and_then work (λ fate. ev.after_serving k fate q)) (Some p)
      by_stage (Authenticating setting state) = refl
      by_stage (Unnamed privileged) = refl
      by_stage (Closing conn) = refl

  work_more : (s : Standing) (k : ℕ) (work : OfFate) → Same (ev.work_for (grow s) k work) (ev.work_for s k work)
  work_more s k work =
      elim (cases_eq k key) [
        | inl same ↦
            subst (λ (n : ℕ). Same (ev.work_for (grow s) n work) (ev.work_for s n work)) (sym same)
            (ap (λ (o : Option Peer). ev.work_at (grow s) key o work) (peer_with_more piece key s) ∙ work_here s work (peer_at s key))
        | inr apart ↦
            ap (λ (o : Option Peer). ev.work_at (grow s) k o work) (peer_apart piece key s k apart) ∙ work_there s k work apart (peer_at s k)
      ]

  -- ## Changes that are made together

  each_more : (joints : List Joint) (s : Standing) → Same (ev.making_each joints (grow s)) (ev.making_each joints s)
  each_more [] s = refl
  each_more (j ∷ joints) s =
      then_seen grow grow (ev.work_for s j.key _) (ev.work_for (grow s) j.key _) (λ t. ev.making_each joints t) (λ t. ev.making_each joints t) (work_more s j.key _) (λ t. each_more joints t)

  answers_more : (joints : List Joint) (outcomes : List Outcome) (s : Standing) → Same (ev.answering_each joints outcomes (grow s)) (ev.answering_each joints outcomes s)
  answers_more [] outcomes s = refl
  answers_more (j ∷ joints) [] s = refl
  answers_more (j ∷ joints) (o ∷ outcomes) s =
      then_seen grow grow (ev.work_for s j.key _) (ev.work_for (grow s) j.key _) (λ t. ev.answering_each joints outcomes t) (λ t. ev.answering_each joints outcomes t) (work_more s j.key _)
      (λ t. answers_more joints outcomes t)

  changes_more : (joints : List Joint) (s : Standing) (heard : Heard (List Outcome)) → Same (ev.after_changes joints (grow s) heard) (ev.after_changes joints s heard)
  changes_more joints s (Says outcomes) = answers_more joints outcomes s
  changes_more joints s (Refuses refusal) = each_more joints s

  made_if : (joints : List Joint) (s : Standing) (granted : Bool) → Same (ev.making_if joints (grow s) granted) (ev.making_if joints s granted)
  made_if joints s true = λ i. ChangingAll (map change_of_joint joints) (λ heard. changes_more joints s heard i)
  made_if joints s false = each_more joints s

  pub all_more : (joints : List Joint) (s : Standing) → Same (ev.making_all joints (grow s)) (ev.making_all joints s)
  all_more [] s = refl
  all_more (j ∷ []) s = each_more (j ∷ []) s
  all_more (j ∷ k ∷ joints) s = λ i. Wanting (λ granted. made_if (j ∷ k ∷ joints) s granted i)

  -- ## The next message of another connection

  module _ (k : ℕ) (apart : k ≢ key) where
    abbrev other : (s : Standing) (o : Option Peer) (work : Peer → OfPeer) → Same (ev.for_peer (grow s) k o work) (ev.for_peer s k o work)
    other s o work = there piece key s k apart work o

    greeting_more : (m : Message) (p : Peer) (o : Outcome) (conn : Conn) (t : Standing) → Same (ev.greeting k m p o conn (grow t)) (ev.greeting k m p o conn t)
    greeting_more m p o conn t =
        then_behind grow (replying m conn (UniqueName conn.number)) (λ done. Announcing o.signals (Gives (with_peer t k (Some (record p { stage = Named conn })))))
        (λ done. Announcing o.signals (Gives (with_peer (grow t) k (Some (record p { stage = Named conn })))))
        (λ done. ap (λ (u : Standing). Announcing o.signals (Gives u)) (more_apart piece key t k (Some (record p { stage = Named conn })) apart))

    hello_by_more : (s : Standing) (m : Message) (p : Peer) (o : Outcome) (r : Reply) → Same (ev.after_hello_by (grow s) k m p o r) (ev.after_hello_by s k m p o r)
    hello_by_more s m p o (reply.Welcome conn) =
        then_seen grow grow (ev.closing_former s conn) (ev.closing_former (grow s) conn) (λ t. ev.greeting k m p o conn t) (λ t. ev.greeting k m p o conn t) (close_former_more piece key s conn)
        (λ t. greeting_more m p o conn t)
    hello_by_more s m p o reply.LimitsExceeded = other s (Some p) (ev.dismissal k m)
    hello_by_more s m p o reply.Gone = other s (Some p) (ev.dismissal k m)
    hello_by_more s m p o reply.Done = other s (Some p) (ev.dismissal k m)
    hello_by_more s m p o (reply.OfQueue r) = other s (Some p) (ev.dismissal k m)
    hello_by_more s m p o reply.InvalidName = other s (Some p) (ev.dismissal k m)
    hello_by_more s m p o reply.RuleNotFound = other s (Some p) (ev.dismissal k m)
    hello_by_more s m p o reply.AccessDenied = other s (Some p) (ev.dismissal k m)
    hello_by_more s m p o reply.AlreadyRunning = other s (Some p) (ev.dismissal k m)
    hello_by_more s m p o (reply.Held ticket) = other s (Some p) (ev.dismissal k m)
    hello_by_more s m p o reply.ServiceUnknown = other s (Some p) (ev.dismissal k m)
    hello_by_more s m p o (reply.Pass owner) = other s (Some p) (ev.dismissal k m)
    hello_by_more s m p o reply.Ignored = other s (Some p) (ev.dismissal k m)

    hello_more : (s : Standing) (m : Message) (p : Peer) (heard : Heard Outcome) → Same (ev.after_hello (grow s) k m p heard) (ev.after_hello s k m p heard)
    hello_more s m p (Refuses refusal) = other s (Some p) (ev.refusing_hello k m (error_for refusal))
    hello_more s m p (Says o) = hello_by_more s m p o o.reply

    named_more : (s : Standing) (m : Message) (p : Peer) (conn : Conn) (watches : Bool) → Same (ev.serving_named (grow s) k m p conn watches) (ev.serving_named s k m p conn watches)
    named_more s m p conn true = other s (Some p) (ev.closing k cause.MonitorSent)
    named_more s m p conn false = other s (Some p) (λ q. and_then (serving m conn) (λ fate. ev.after_serving k fate q))

    unnamed_more : (s : Standing) (m : Message) (p : Peer) (privileged b : Bool) →
        Same (if b then ev.serving_hello (grow s) k m p privileged else ev.for_peer (grow s) k (Some p) (ev.closing k cause.NotHello))
        (if b then ev.serving_hello s k m p privileged else ev.for_peer s k (Some p) (ev.closing k cause.NotHello))
    unnamed_more s m p privileged true = λ i. Gating call.Hello (Changing (Hello privileged) (λ heard. hello_more s m p heard i))
    unnamed_more s m p privileged false = other s (Some p) (ev.closing k cause.NotHello)

    serving_more : (s : Standing) (m : Message) (p : Peer) (stage : Stage) → Same (ev.serving_at (grow s) k m p stage) (ev.serving_at s k m p stage)
    serving_more s m p (Authenticating setting state) = refl
    serving_more s m p (Unnamed privileged) = unnamed_more s m p privileged (is_hello m)
    serving_more s m p (Named conn) = named_more s m p conn p.watches
    serving_more s m p (Closing conn) = refl

    incoming_more : (s : Standing) (p : Peer) (incoming : Incoming) → Same (ev.serving_incoming (grow s) k p incoming) (ev.serving_incoming s k p incoming)
    incoming_more s p Waits = refl
    incoming_more s p (Faulty fault) = other s (Some p) (ev.closing k (cause.Faulty fault))
    incoming_more s p (Whole bytes rest) = serving_more s (message_said bytes) (record p { unread = rest }) p.stage

    next_of : (s : Standing) (o : Option Peer) → Same (ev.serving_next (grow s) k o) (ev.serving_next s k o)
    next_of s None = refl
    next_of s (Some p) = by_stage p.stage
      where
        by_stage : (stage : Stage) → Same (ev.next_at (grow s) k p stage) (ev.next_at s k p stage)
        by_stage (Authenticating setting state) = refl
        by_stage (Unnamed privileged) = λ i. Framing p.unread (λ incoming. incoming_more s p incoming i)
        by_stage (Named conn) = λ i. Framing p.unread (λ incoming. incoming_more s p incoming i)
        by_stage (Closing conn) = refl

    pub next_more : (s : Standing) → Same (ev.serving_next (grow s) k (peer_at (grow s) k)) (ev.serving_next s k (peer_at s k))
    next_more s = ap (λ (o : Option Peer). ev.serving_next (grow s) k o) (peer_apart piece key s k apart) ∙ next_of s (peer_at s k)

  -- ## Turns

  abbrev pub grown : ev.Gathered → ev.Gathered
  grown g = record g { standing = grow g.standing }

  pub joints_more : (joints : List Joint) (s : Standing) (work : Standing → Stands) → ((t : Standing) → Same (work (grow t)) (work t)) →
      ev.after_joints joints (grow s) work ≡ seen_as grown (ev.after_joints joints s work)
  joints_more joints s work each =
      then_seen grow grown (ev.making_all joints s) (ev.making_all joints (grow s)) (λ t. and_then (work t) (λ u. ev.gathering_of_one [] u)) (λ t. and_then (work t) (λ u. ev.gathering_of_one [] u))
      (all_more joints s)
      (λ t. then_seen grow grown (work t) (work (grow t)) (λ u. ev.gathering_of_one [] u) (λ u. ev.gathering_of_one [] u) (each t) (λ u. refl))

  pub joining_more : (joints : List Joint) (s : Standing) (j : Joint) (it : Joining) → ev.after_joining joints (grow s) j it ≡ seen_as grown (ev.after_joining joints s j it)
  joining_more joints s j Joins = refl
  joining_more joints s j (Parts work) = joints_more joints s (λ t. ev.work_for t j.key work) (λ t. work_more t j.key work)

  module _ (k : ℕ) (apart : k ≢ key) where
    apart_more : (joints : List Joint) (s : Standing) → ev.serving_apart joints (grow s) k ≡ seen_as grown (ev.serving_apart joints s k)
    apart_more joints s = joints_more joints s (λ t. ev.serving_next t k (peer_at t k)) (λ t. next_more k apart t)

    call_more : (joints : List Joint) (s : Standing) (message : List ℕ) (p : Peer) (conn : Conn) (c : RuleCall) →
        ev.joining_call joints (grow s) k message p conn c ≡ seen_as grown (ev.joining_call joints s k message p conn c)
    call_more joints s message p conn c =
        let j : Joint = record { key = k; message = message; caller = conn; call = c } in
        then_behind grown (joining (message_said message) conn c) (λ it. ev.after_joining joints (with_peer s k (Some p)) j it) (λ it. ev.after_joining joints (with_peer (grow s) k (Some p)) j it)
        (λ it. ap (λ (t : Standing). ev.after_joining joints t j it) (more_apart piece key s k (Some p) apart) ∙ joining_more joints (with_peer s k (Some p)) j it)

    reading_more : (joints : List Joint) (s : Standing) (message : List ℕ) (p : Peer) (conn : Conn) (read : Option RuleCall) →
        ev.joining_reading joints (grow s) k message p conn read ≡ seen_as grown (ev.joining_reading joints s k message p conn read)
    reading_more joints s message p conn None = apart_more joints s
    reading_more joints s message p conn (Some c) = call_more joints s message p conn c

    join_more : (joints : List Joint) (s : Standing) (message : List ℕ) (p : Peer) (conn : Conn) (granted : Bool) →
        ev.joining_if joints (grow s) k message p conn granted ≡ seen_as grown (ev.joining_if joints s k message p conn granted)
    join_more joints s message p conn true = λ i. Calling (message_said message) (λ reading. reading_more joints s message p conn (rule_call reading) i)
    join_more joints s message p conn false = apart_more joints s

    may_more : (joints : List Joint) (s : Standing) (message : List ℕ) (p : Peer) (conn : Conn) (b : Bool) →
        (if b then Wanting (λ granted. ev.joining_if joints (grow s) k message p conn granted) else ev.serving_apart joints (grow s) k)
        ≡ seen_as grown (if b then Wanting (λ granted. ev.joining_if joints s k message p conn granted) else ev.serving_apart joints s k)
    may_more joints s message p conn true = λ i. Wanting (λ granted. join_more joints s message p conn granted i)
    may_more joints s message p conn false = apart_more joints s

    message_more : (joints : List Joint) (s : Standing) (message : List ℕ) (p : Peer) (conn : Conn) (watches : Bool) →
        ev.gathering_message joints (grow s) k message p conn watches ≡ seen_as grown (ev.gathering_message joints s k message p conn watches)
    message_more joints s message p conn true = apart_more joints s
    message_more joints s message p conn false = may_more joints s message p conn (may_join (message_said message))

    gathered_more : (joints : List Joint) (s : Standing) (p : Peer) (conn : Conn) (incoming : Incoming) →
        ev.gathering_incoming joints (grow s) k p conn incoming ≡ seen_as grown (ev.gathering_incoming joints s k p conn incoming)
    gathered_more joints s p conn Waits = refl
    gathered_more joints s p conn (Faulty fault) = apart_more joints s
    gathered_more joints s p conn (Whole bytes rest) = message_more joints s bytes (record p { unread = rest }) conn p.watches

    gathered_apart : (joints : List Joint) (s : Standing) (incoming : Incoming) →
        ev.serving_incoming_apart joints (grow s) k incoming ≡ seen_as grown (ev.serving_incoming_apart joints s k incoming)
    gathered_apart joints s Waits = refl
    gathered_apart joints s (Faulty fault) = apart_more joints s
    gathered_apart joints s (Whole bytes rest) = apart_more joints s

    gathering_of : (joints : List Joint) (s : Standing) (o : Option Peer) → ev.gathering joints (grow s) k o ≡ seen_as grown (ev.gathering joints s k o)
    gathering_of joints s None = refl
    gathering_of joints s (Some p) = by_stage p.stage
      where
        by_stage : (stage : Stage) → ev.gathering_at joints (grow s) k p stage ≡ seen_as grown (ev.gathering_at joints s k p stage)
        by_stage (Named conn) = λ i. Framing p.unread (λ incoming. gathered_more joints s p conn incoming i)
        by_stage (Unnamed privileged) = λ i. Framing p.unread (λ incoming. gathered_apart joints s incoming i)
        by_stage (Authenticating setting state) = refl
        by_stage (Closing conn) = refl

    pub gathering_more : (joints : List Joint) (s : Standing) → ev.gathering joints (grow s) k (peer_at (grow s) k) ≡ seen_as grown (ev.gathering joints s k (peer_at s k))
    gathering_more joints s = ap (λ (o : Option Peer). ev.gathering joints (grow s) k o) (peer_apart piece key s k apart) ∙ gathering_of joints s (peer_at s k)

  -- ## Leaves

  heard_more : (s : Standing) (number : ℕ) (heard : Heard Outcome) → Same (ev.after_leave (grow s) number heard) (ev.after_leave s number heard)
  heard_more s number (Says o) = refl
  heard_more s number (Refuses refusal) = refl

  leave_more : (s : Standing) (number : ℕ) → Same (ev.leaving (grow s) number) (ev.leaving s number)
  leave_more s number = λ i. Changing (Leave number) (λ heard. heard_more s number heard i)

  leaves_each : (numbers : List ℕ) (s : Standing) → Same (ev.leaving_each numbers (grow s)) (ev.leaving_each numbers s)
  leaves_each [] s = refl
  leaves_each (number ∷ numbers) s =
      then_seen grow grow (ev.leaving s number) (ev.leaving (grow s) number) (λ t. ev.leaving_each numbers t) (λ t. ev.leaving_each numbers t) (leave_more s number) (λ t. leaves_each numbers t)

  leaves_heard : (s : Standing) (numbers : List ℕ) (heard : Heard (List Outcome)) → Same (ev.after_leaves (grow s) numbers heard) (ev.after_leaves s numbers heard)
  leaves_heard s numbers (Says outcomes) = then_behind grow (ev.announcing_all outcomes) (λ done. Gives s) (λ done. Gives (grow s)) (λ done. refl)
  leaves_heard s numbers (Refuses refusal) = leaves_each numbers s

  leaves_if : (s : Standing) (numbers : List ℕ) (granted : Bool) → Same (ev.leaving_if (grow s) numbers granted) (ev.leaving_if s numbers granted)
  leaves_if s numbers true = λ i. ChangingAll (map Leave numbers) (λ heard. leaves_heard s numbers heard i)
  leaves_if s numbers false = leaves_each numbers s

  leaves_together : (s : Standing) (numbers : List ℕ) → Same (ev.leaving_together (grow s) numbers) (ev.leaving_together s numbers)
  leaves_together s [] = refl
  leaves_together s (number ∷ numbers) = λ i. Wanting (λ granted. leaves_if s (number ∷ numbers) granted i)

  leaves_if_many : (b : Bool) (anew more anew_later more_later : Stands) → Same anew_later anew → Same more_later more → Same (if b then anew_later else more_later) (if b then anew else more)
  leaves_if_many true anew more anew_later more_later one other = one
  leaves_if_many false anew more anew_later more_later one other = other

  leaves_by : (gathered numbers : List ℕ) (s : Standing) → Same (ev.leaving_by gathered numbers (grow s)) (ev.leaving_by gathered numbers s)
  leaves_by gathered [] s = leaves_together s gathered
  leaves_by gathered (number ∷ numbers) s =
      let anew : Standing → Stands = λ t. and_then (ev.leaving_together t gathered) (λ u. ev.leaving_by (number ∷ []) numbers u) in
      leaves_if_many (eqb (length gathered) max_batch) (anew s) (ev.leaving_by (gathered ++ number ∷ []) numbers s) (anew (grow s)) (ev.leaving_by (gathered ++ number ∷ []) numbers (grow s))
      (then_seen grow grow (ev.leaving_together s gathered) (ev.leaving_together (grow s) gathered) (λ u. ev.leaving_by (number ∷ []) numbers u) (λ u. ev.leaving_by (number ∷ []) numbers u)
      (leaves_together s gathered) (λ u. leaves_by (number ∷ []) numbers u))
      (leaves_by (gathered ++ number ∷ []) numbers s)

  -- ## A connection that comes, or is gone

  placed_apart : (os : List (Option Peer)) (at k : ℕ) (p : Peer) → k ≢ at → placed (grown_at os at) k p ≡ grown_at (placed os k p) at
  placed_apart [] zero zero p apart = absurd (apart refl)
  placed_apart [] (suc at) zero p apart = refl
  placed_apart [] zero (suc k) p apart = refl
  placed_apart [] (suc at) (suc k) p apart = ap (λ (os : List (Option Peer)). None ∷ os) (placed_apart [] at k p (λ e. apart (ap suc e)))
  placed_apart (o ∷ os) zero zero p apart = absurd (apart refl)
  placed_apart (o ∷ os) (suc at) zero p apart = refl
  placed_apart (o ∷ os) zero (suc k) p apart = refl
  placed_apart (o ∷ os) (suc at) (suc k) p apart = ap (λ (xs : List (Option Peer)). o ∷ xs) (placed_apart os at k p (λ e. apart (ap suc e)))

  trimmed_grown : (os : List (Option Peer)) → trimmed (grown_at os key) ≡ grown_at (trimmed os) key
  trimmed_grown os = by_peer (get_or os key None) refl
    where
      with_it : List (Option Peer) → Option Peer → List (Option Peer)
      with_it xs o = set xs key (more_if piece key o)

      by_peer : (o : Option Peer) → get_or os key None ≡ o → trimmed (grown_at os key) ≡ grown_at (trimmed os) key
      by_peer None is =
          ap (λ (o : Option Peer). trimmed (with_it os o)) is
          ∙ ap (λ (o : Option Peer). trimmed (set os key o)) (sym is)
          ∙ ap (λ (xs : List (Option Peer)). trimmed xs) (set-get_or os key None)
          ∙ sym (set-get_or (trimmed os) key None)
          ∙ ap (λ (o : Option Peer). set (trimmed os) key o) (get-trimmed os key ∙ is)
          ∙ ap (λ (o : Option Peer). with_it (trimmed os) o) (sym (get-trimmed os key ∙ is))
      by_peer (Some p) is =
          ap (λ (o : Option Peer). trimmed (with_it os o)) is
          ∙ trimmed-set os key (more piece key p) p is
          ∙ ap (λ (o : Option Peer). with_it (trimmed os) o) (sym (get-trimmed os key ∙ is))

  gone_more : (s : Standing) (conn : Option Conn) → Same (ev.leaving_of (grow s) conn) (ev.leaving_of s conn)
  gone_more s None = refl
  gone_more s (Some conn) = leave_more s conn.number

  module _ (k : ℕ) (apart : k ≢ key) where
    abbrev as_standing : Standing → List (Option Peer) → Standing
    as_standing s peers = record s { peers = peers }

    opened_more : (s : Standing) (challenge : Option (List ℕ)) → with_newcomer (grow s) k challenge ≡ grow (with_newcomer s k challenge)
    opened_more s challenge = ap (as_standing s) (placed_apart s.peers key k (newcomer (first_stage s.login challenge)) apart)

    without_more : (s : Standing) → without_peer (grow s) k ≡ grow (without_peer s k)
    without_more s =
        ap (as_standing s) (ap (λ (os : List (Option Peer)). trimmed os) (set_apart None (more_if piece key) refl s.peers key k None apart) ∙ trimmed_grown (set s.peers k None))

    removing_of : (s : Standing) (o : Option Peer) → Same (ev.removing (grow s) k o) (ev.removing s k o)
    removing_of s None = refl
    removing_of s (Some p) = ap (λ (t : Standing). ev.leaving_of t (conn_of p.stage)) (without_more s) ∙ gone_more (without_peer s k) (conn_of p.stage)

    closed_more : (s : Standing) → Same (ev.removing (grow s) k (peer_at (grow s) k)) (ev.removing s k (peer_at s k))
    closed_more s = ap (λ (o : Option Peer). ev.removing (grow s) k o) (peer_apart piece key s k apart) ∙ removing_of s (peer_at s k)

    bytes_more : (s : Standing) (bytes : List ℕ) →
        Same (ev.for_peer (grow s) k (peer_at (grow s) k) (λ p. ev.hearing k bytes p p.stage)) (ev.for_peer s k (peer_at s k) (λ p. ev.hearing k bytes p p.stage))
    bytes_more s bytes =
        ap (λ (o : Option Peer). ev.for_peer (grow s) k o (λ p. ev.hearing k bytes p p.stage)) (peer_apart piece key s k apart)
        ∙ there piece key s k apart (λ p. ev.hearing k bytes p p.stage) (peer_at s k)

  -- ## Time

  check_more : (k : ℕ) (p : Peer) (heard : Heard Bool) → ev.after_check k (more piece key p) heard ≡ seen_as (more piece key) (ev.after_check k p heard)
  check_more k p (Says false) = closing_natural piece key k cause.Left p
  check_more k p (Says true) = refl
  check_more k p (Refuses refusal) = refl

  presence_more : (k : ℕ) → Natural piece key (λ p. ev.checking_presence k p p.stage)
  presence_more k p = ap (λ (stage : Stage). ev.checking_presence k (more piece key p) stage) (stage_same piece key p p.stage) ∙ by_stage p.stage
    where
      by_stage : (stage : Stage) → ev.checking_presence k (more piece key p) stage ≡ seen_as (more piece key) (ev.checking_presence k p stage)
      by_stage (Named conn) = λ i. AskingPresence conn.number (λ heard. check_more k p heard i)
      by_stage (Authenticating setting state) = refl
      by_stage (Unnamed privileged) = refl
      by_stage (Closing conn) = refl

  entry_more : (w : Peer → OfPeer) → Natural piece key w → (o : Option Peer) → ev.for_entry (more_if piece key o) w ≡ seen_as (more_if piece key) (ev.for_entry o w)
  entry_more w natural None = refl
  entry_more w natural (Some p) = then_seen (more piece key) (more_if piece key) (w p) (w (more piece key p)) (λ q. Gives (Some q)) (λ q. Gives (Some q)) (natural p) (λ q. refl)

  -- one of those that were checked, or are checked later, has more bytes
  abbrev IsAmong : List (Option Peer) → ℕ → Type 0
  IsAmong [] at = ⊥
  IsAmong (o ∷ os) zero = Unit {0}
  IsAmong (o ∷ os) (suc at) = IsAmong os at

  among_more : (done : List (Option Peer)) (at : ℕ) (o : Option Peer) → IsAmong done at → IsAmong (done ++ o ∷ []) at
  among_more [] at o among = absurd among
  among_more (x ∷ done) zero o among = tt
  among_more (x ∷ done) (suc at) o among = among_more done at o among

  among_last : (done : List (Option Peer)) (o : Option Peer) → IsAmong (done ++ o ∷ []) (length done)
  among_last [] o = tt
  among_last (x ∷ done) o = among_last done o

  grown_before : (done : List (Option Peer)) (at : ℕ) (o : Option Peer) → IsAmong done at → grown_at done at ++ o ∷ [] ≡ grown_at (done ++ o ∷ []) at
  grown_before [] at o among = absurd among
  grown_before (x ∷ done) zero o among = refl
  grown_before (x ∷ done) (suc at) o among = ap (λ (os : List (Option Peer)). x ∷ os) (grown_before done at o among)

  grown_last : (done : List (Option Peer)) (o : Option Peer) → done ++ more_if piece key o ∷ [] ≡ grown_at (done ++ o ∷ []) (length done)
  grown_last [] o = refl
  grown_last (x ∷ done) o = ap (λ (os : List (Option Peer)). x ∷ os) (grown_last done o)

  grown_beyond : (done : List (Option Peer)) (j : ℕ) → grown_at done (length done + j) ≡ done
  grown_beyond [] j = refl
  grown_beyond (x ∷ done) j =
      let next : suc (length done) + j ≡ suc (length done + j) = omega arith in
      ap (λ (n : ℕ). grown_at (x ∷ done) n) next ∙ ap (λ (os : List (Option Peer)). x ∷ os) (grown_beyond done j)

  length_last : (done : List (Option Peer)) (o : Option Peer) → length (done ++ o ∷ []) ≡ length done + 1
  length_last [] o = refl
  length_last (x ∷ done) o =
      let next : suc (length done + 1) ≡ suc (length done) + 1 = omega arith in
      ap suc (length_last done o) ∙ next

  abbrev Grows : (at : ℕ) → (now before : Script (List (Option Peer))) → Type 0
  Grows at now before = now ≡ seen_as (λ os. grown_at os at) before

  abbrev checked : List (Option Peer) → List (Option Peer) → ℕ → Option Peer → Script (List (Option Peer))
  checked done peers k o = and_then (ev.for_entry o (λ p. ev.checking_presence k p p.stage)) (λ q. ev.checking_each (done ++ q ∷ []) peers)

  done_more : (peers done : List (Option Peer)) (at : ℕ) → IsAmong done at → Grows at (ev.checking_each (grown_at done at) peers) (ev.checking_each done peers)
  done_more [] done at among = refl
  done_more (o ∷ peers) done at among =
      ap (λ (k : ℕ). checked (grown_at done at) peers k o) (length-set done at (more_if piece key (get_or done at None)))
      ∙ then_behind (λ os. grown_at os at) (ev.for_entry o (λ p. ev.checking_presence (length done) p p.stage)) (λ q. ev.checking_each (done ++ q ∷ []) peers)
      (λ q. ev.checking_each (grown_at done at ++ q ∷ []) peers)
      (λ q. ap (λ (os : List (Option Peer)). ev.checking_each os peers) (grown_before done at q among) ∙ done_more peers (done ++ q ∷ []) at (among_more done at q among))

  later_more : (peers done : List (Option Peer)) (j at : ℕ) → at ≡ length done + j → Grows at (ev.checking_each done (grown_at peers j)) (ev.checking_each done peers)
  later_more [] done j at is =
      let same : done ≡ grown_at done at = sym (ap (λ (n : ℕ). grown_at done n) is ∙ grown_beyond done j) in
      ap (λ (os : List (Option Peer)). let end : Script (List (Option Peer)) = Gives os in end) same
  later_more (o ∷ peers) done zero at is =
      let last : at ≡ length done = omega (arith, is) in
      then_seen (more_if piece key) (λ os. grown_at os at) (ev.for_entry o (λ p. ev.checking_presence (length done) p p.stage))
      (ev.for_entry (more_if piece key o) (λ p. ev.checking_presence (length done) p p.stage)) (λ q. ev.checking_each (done ++ q ∷ []) peers) (λ q. ev.checking_each (done ++ q ∷ []) peers)
      (entry_more (λ p. ev.checking_presence (length done) p p.stage) (presence_more (length done)) o)
      (λ q.
      ap (λ (os : List (Option Peer)). ev.checking_each os peers) (grown_last done q ∙ ap (λ (n : ℕ). grown_at (done ++ q ∷ []) n) (sym last))
      ∙ done_more peers (done ++ q ∷ []) at (subst (λ (n : ℕ). IsAmong (done ++ q ∷ []) n) (sym last) (among_last done q)))
  later_more (o ∷ peers) done (suc j) at is =
      then_behind (λ os. grown_at os at) (ev.for_entry o (λ p. ev.checking_presence (length done) p p.stage)) (λ q. ev.checking_each (done ++ q ∷ []) peers)
      (λ q. ev.checking_each (done ++ q ∷ []) (grown_at peers j))
      (λ q. later_more peers (done ++ q ∷ []) j at (omega (arith, is, length_last done q)))

  checks_more : (s : Standing) → Same (ev.checking_all (grow s)) (ev.checking_all s)
  checks_more s =
      then_seen (λ os. grown_at os key) grow (ev.checking_each [] s.peers) (ev.checking_each [] (grow s).peers) (λ peers. Gives (record s { peers = peers })) (λ peers. Gives (record s { peers = peers }))
      (later_more s.peers [] key key (omega arith)) (λ peers. refl)

  tick_more : (s : Standing) → Same (ev.ticking (grow s)) (ev.ticking s)
  tick_more s =
      let none_due : Standing = record s { due_leaves = [] } in
      then_seen grow grow (ev.leaving_all s.due_leaves none_due) (ev.leaving_all s.due_leaves (grow none_due)) ev.checking_all ev.checking_all (leaves_by [] s.due_leaves none_due) checks_more

  -- ## Starts that end

  end_more : (s : Standing) (how : HowEnded) (heard : Heard Outcome) → Same (ev.after_end (grow s) how heard) (ev.after_end s how heard)
  end_more s how (Refuses refusal) = refl
  end_more s how (Says o) =
      ap (λ (x : Stands). Announcing o.signals x) (then_behind grow (failing_all (ev.error_of_end how) o.tickets) (λ done. Gives s) (λ done. Gives (grow s)) (λ done. refl))

  child_more : (s : Standing) (e : StartEnd) → Same (ev.ending_child (grow s) e) (ev.ending_child s e)
  child_more s e = λ i. Changing (ev.change_of e) (λ heard. end_more s e.how heard i)

  -- ## Events

  noted_more : (told : Option History) (now before : Stands) → Same now before → Same (ev.after_note told now) (ev.after_note told before)
  noted_more None now before same = same
  noted_more (Some told) now before same = ap (λ (x : Stands). Noting told x) same

  -- It serves no message of the connection.
  abbrev pub ServesOthers : Occasion → Type 0
  ServesOthers (Next k) = k ≢ key
  ServesOthers (Turn keys) = ⊥
  ServesOthers occasion = Unit {0}

  pub event_more : (s : Standing) (occasion : Occasion) → is_of key occasion ≡ false → ServesOthers occasion → Same (ev.script (grow s) occasion) (ev.script s occasion)
  event_more s (Opened k challenge) not others = ap (λ (t : Standing). let end : Stands = Gives t in end) (opened_more k (apart_from key k not) s challenge)
  event_more s (Bytes k bytes) not others = bytes_more k (apart_from key k not) s bytes
  event_more s (Closed k) not others = closed_more k (apart_from key k not) s
  event_more s (Next k) not others = next_more k others s
  event_more s (Turn keys) not others = absurd others
  event_more s (Mail slot number told said) not others =
      noted_more told (ev.mail_delivery (grow s) said (position (is_conn slot number) (grow s).peers)) (ev.mail_delivery s said (position (is_conn slot number) s.peers)) (mail_more piece key s slot number said)
  event_more s (Full number) not others = leave_more s number
  event_more s (Child e) not others = child_more s e
  event_more s Tick not others = tick_more s
