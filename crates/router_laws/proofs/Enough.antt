-- An event that finds all the messages that it asks for does the same with more bytes behind them.
use Rattle.std.proofs.Common.{◌≡◌, ◌≢◌, ℕ, suc, Bool, true, false, Option, Some, None, List, [], ◌∷◌, ◌++◌, inl, inr, if◌then◌else◌, refl, sym, ap, ◌∙◌, subst}
use Rattle.std.proofs.lemmas.Bool.Decides.{eqb_tells}
use Rattle.seq_bus_core.specs.declared.connection.Conn.{Conn}
use Rattle.seq_bus_core.specs.declared.error_kind.ErrorKind.{ErrorKind}
use Rattle.seq_bus_core.specs.declared.error_kind.ErrorKind.TheVariants.{LimitsExceeded}
use Rattle.seq_bus_core.specs.declared.outcome.Outcome.{Outcome}
use Rattle.seq_bus_core.specs.declared.outcome.Reply.{Reply}
use Rattle.seq_bus_core.specs.declared.outcome.Reply.TheVariants as reply
use Rattle.message_core.specs.Messages.{Message}
use Rattle.message_core.specs.Said.{said as message_said}
use Rattle.bus_view.specs.Views.{Knowledge}
use Rattle.driver.specs.Calls.{expects_reply, is_hello}
use Rattle.outbox_core.specs.Contents.{Own, Errs, Tells, UniqueName}
use Rattle.router_core.specs.declared.cause.CloseCause.{CloseCause}
use Rattle.router_core.specs.declared.cause.CloseCause.TheVariants as cause
use Rattle.router_core.specs.declared.fate.PeerFate.{PeerFate}
use Rattle.router_core.specs.declared.fate.PeerFate.TheVariants as fate
use Rattle.router_core.specs.declared.joint.Joint.{Joint}
use Rattle.router_core.specs.declared.joint.RuleCall.{RuleCall}
use Rattle.router_core.specs.Acts.{Exchange, Framed, Goes, IsGranted, IsLawful}
use Rattle.router_core.specs.Answers.{Heard, Says, Refuses, error_for}
use Rattle.router_core.specs.Deeds.{Deed}
use Rattle.router_core.specs.Events as ev
use Rattle.router_core.specs.Events.{Occasion, OfPeer, Stands, Opened, Bytes, Next, Turn, Mail, Closed, Full, Child, Tick, with_bytes}
use Rattle.router_core.specs.Incoming.{Incoming, Waits, Whole, Faulty, IsIncoming}
use Rattle.router_core.specs.Readings.{with_behind}
use Rattle.router_core.specs.Scripts.{Script, Gives, Framing, Wanting, and_then}
use Rattle.router_core.specs.Serving.{monitors_in, replying, serving}
use Rattle.router_core.specs.Standing.{Stage, Authenticating, Unnamed, Named, Closing, Peer, Standing, peer_at, with_peer}
use Rattle.router_core.specs.Together.{joining, may_join, rule_call}
use Rattle.router_core.proofs.Incoming.{incoming_is_one, incoming_stays}
use Rattle.router.proofs.Feeding.{closing_natural, here, more, more_if, more_of_set, peer_with_more, seen_as, serve_more, set_of_more, stage_same, watches_same, with_more}
use Rattle.router_laws.specs.Cuts.{BeginWith, HaveAllOf, IsFollowed, asked_of}
use Rattle.router_laws.specs.Logins.{is_of}
use Rattle.router_laws.proofs.Leaving.{Gathers, HasOf, Kept, all_kept, gathering_kept, joining_kept, set_has}
use Rattle.router_laws.proofs.Following.{calling_follows, wanting_follows, Again, Follows, follows_same, follows_then}
use Rattle.router_laws.proofs.Moving.{all_more, event_more, gathering_more, grown, joining_more, next_more, then_behind}
use Rattle.router_laws.proofs.Results.{Always, by_test, one_then, put_before, then_whatever, weaker, whatever}
use Rattle.router_laws.proofs.Stages.{MaySpeak}

module _ (key : ℕ) where
  -- whoever may send messages has so many
  abbrev Has : ℕ → Standing → Type 0
  Has count s = HasOf (BeginWith count) (peer_at s key)

  -- ## The next message of the connection itself

  -- one that is left so
  abbrev Leaves : ℕ → Peer → Type 0
  Leaves count q = HasOf (BeginWith count) (Some q)

  for_has : (count : ℕ) (s : Standing) (p : Peer) (work : Peer → OfPeer) → Always (Leaves count) (work p) → Always (Has count) (ev.for_peer s key (Some p) work)
  for_has count s p work h =
      one_then (HasOf (BeginWith count)) (Has count) (λ o. Gives (with_peer s key o)) (λ o has. set_has (BeginWith count) s.peers key o has) (and_then (work p) (λ q. Gives (Some q)))
      (one_then (Leaves count) (HasOf (BeginWith count)) (λ q. Gives (Some q)) (λ q has. has) (work p) h)

  closing_has : (count : ℕ) (why : CloseCause) (p : Peer) → Always (Leaves count) (ev.closing key why p)
  closing_has count why p = λ speaks. absurd speaks

  fate_has : (count : ℕ) (p : Peer) (end : PeerFate) → Leaves count p → Always (Leaves count) (ev.after_serving key end p)
  fate_has count p fate.Stays has = has
  fate_has count p fate.Watches has = has
  fate_has count p (fate.Closes why) has = closing_has count why p

  refusing_has : (count : ℕ) (m : Message) (kind : ErrorKind) (p : Peer) → Leaves count p → Always (Leaves count) (ev.refusing_hello key m kind p)
  refusing_has count m kind p has =
      let own : Own = Errs (record { caller = None; call = m.serial }) kind in
      by_test (Leaves count) (expects_reply m) _ (Gives p) (λ heard. put_before (Leaves count) (monitors_in heard) (Tells own) _ has) has

  dismissal_has : (count : ℕ) (m : Message) (p : Peer) → Always (Leaves count) (ev.dismissal key m p)
  dismissal_has count m p =
      then_whatever (Leaves count) (ev.refusing_hello key m LimitsExceeded p) (λ q. ev.closing key cause.LimitsExceeded q) (λ q. closing_has count cause.LimitsExceeded q)

  module _ (count : ℕ) (s : Standing) (m : Message) (p : Peer) (has : BeginWith count p.unread) where
    greeting_has : (o : Outcome) (conn : Conn) (t : Standing) → Always (Has count) (ev.greeting key m p o conn t)
    greeting_has o conn t = then_whatever (Has count) (replying m conn (UniqueName conn.number)) _ (λ done. set_has (BeginWith count) t.peers key (Some (record p { stage = Named conn })) (λ speaks. has))

    dismissed : Always (Has count) (ev.for_peer s key (Some p) (ev.dismissal key m))
    dismissed = for_has count s p (ev.dismissal key m) (dismissal_has count m p)

    hello_by_has : (o : Outcome) (r : Reply) → Always (Has count) (ev.after_hello_by s key m p o r)
    hello_by_has o (reply.Welcome conn) = then_whatever (Has count) (ev.closing_former s conn) (λ t. ev.greeting key m p o conn t) (λ t. greeting_has o conn t)
    hello_by_has o reply.LimitsExceeded = dismissed
    hello_by_has o reply.Gone = dismissed
    hello_by_has o reply.Done = dismissed
    hello_by_has o (reply.OfQueue r) = dismissed
    hello_by_has o reply.InvalidName = dismissed
    hello_by_has o reply.RuleNotFound = dismissed
    hello_by_has o reply.AccessDenied = dismissed
    hello_by_has o reply.AlreadyRunning = dismissed
    hello_by_has o (reply.Held ticket) = dismissed
    hello_by_has o reply.ServiceUnknown = dismissed
    hello_by_has o (reply.Pass owner) = dismissed
    hello_by_has o reply.Ignored = dismissed

    hello_has : (heard : Heard Outcome) → Always (Has count) (ev.after_hello s key m p heard)
    hello_has (Refuses refusal) = for_has count s p (ev.refusing_hello key m (error_for refusal)) (refusing_has count m (error_for refusal) p (λ speaks. has))
    hello_has (Says o) = hello_by_has o o.reply

    named_has : (conn : Conn) (watches : Bool) → Always (Has count) (ev.serving_named s key m p conn watches)
    named_has conn true = for_has count s p (ev.closing key cause.MonitorSent) (closing_has count cause.MonitorSent p)
    named_has conn false =
        for_has count s p (λ q. and_then (serving m conn) (λ end. ev.after_serving key end q))
        (then_whatever (Leaves count) (serving m conn) (λ end. ev.after_serving key end p) (λ end. fate_has count p end (λ speaks. has)))

    serving_has : (stage : Stage) → MaySpeak stage → Always (Has count) (ev.serving_at s key m p stage)
    serving_has (Authenticating setting state) speaks = absurd speaks
    serving_has (Unnamed privileged) speaks =
        by_test (Has count) (is_hello m) _ _ (λ heard. hello_has heard) (for_has count s p (ev.closing key cause.NotHello) (closing_has count cause.NotHello p))
    serving_has (Named conn) speaks = named_has conn p.watches
    serving_has (Closing conn) speaks = absurd speaks

  module _ (piece : List ℕ) where
    abbrev grow : Standing → Standing
    grow s = with_more piece key s

    abbrev grow_all : ev.Gathered → ev.Gathered
    grow_all g = grown piece key g

    abbrev left_with : Peer → List ℕ → Peer
    left_with p bytes = record p { unread = bytes }

    -- bytes are taken at this stage
    record Takes (p : Peer) (stage : Stage) : Type 0 where
      is : p.stage ≡ stage
      speaks : MaySpeak stage
      grows : with_bytes piece p stage ≡ left_with p (p.unread ++ piece)
      left : (rest : List ℕ) → with_bytes piece (left_with p rest) stage ≡ left_with p (rest ++ piece)

    module _ (p : Peer) (stage : Stage) (t : Takes p stage) where
      grown_peer : more piece key p ≡ left_with p (p.unread ++ piece)
      grown_peer = ap (λ (st : Stage). with_bytes piece p st) t.is ∙ t.grows

      left_peer : (rest : List ℕ) → more piece key (left_with p rest) ≡ left_with p (rest ++ piece)
      left_peer rest = ap (λ (st : Stage). with_bytes piece (left_with p rest) st) t.is ∙ t.left rest

      may_speak : MaySpeak p.stage
      may_speak = subst (λ (st : Stage). MaySpeak st) (sym t.is) t.speaks

      not_short : (behind : List ℕ → Type 0) (incoming : Incoming) → IsFollowed behind incoming → incoming ≢ Waits
      not_short behind Waits h = absurd h
      not_short behind (Whole message rest) h = λ e. absurd (cc)
      not_short behind (Faulty fault) h = λ e. absurd (cc)

      -- what is read goes on in the same way
      framing_follows : {X : Type 0} (P : X → Type 0) (f : X → X) (count : ℕ) (next later : Incoming → Script X) → BeginWith (suc count) p.unread →
          ((incoming : Incoming) → IsFollowed (BeginWith count) incoming → Follows P f (later (with_behind piece incoming)) (next incoming)) →
          Follows P f (Framing (more piece key p).unread later) (Framing p.unread next)
      framing_follows P f count next later has each k m asked deeds x goes lawful granted =
          let there = subst (λ (a : List Exchange). IsLawful true k a m) goes.2 lawful in
          let followed = subst (λ (i : Incoming). IsFollowed (BeginWith count) i) (sym (incoming_is_one p.unread goes.0 has.0 there.0 has.1)) has.2 in
          let behind : Incoming = with_behind piece goes.0 in
          let r = each goes.0 followed k m goes.1 deeds x goes.3 there.1 (subst (λ (a : List Exchange). IsGranted a) goes.2 granted) in (
            r.0,
            record {
              again = Framed (more piece key p).unread behind ∷ r.1.again;
              goes = (behind, r.1.again, refl, r.1.goes);
              lawful = (
                subst (λ (q : Peer). IsIncoming q.unread behind) (sym grown_peer) (incoming_stays p.unread piece goes.0 (not_short (BeginWith count) goes.0 followed) there.0),
                r.1.lawful,
              );
              granted = r.1.granted;
            },
          )

      incoming_follows : (count : ℕ) (s : Standing) (incoming : Incoming) → IsFollowed (BeginWith count) incoming →
          Follows (Has count) grow (ev.serving_incoming (grow s) key (more piece key p) (with_behind piece incoming)) (ev.serving_incoming s key p incoming)
      incoming_follows count s Waits h = absurd h
      incoming_follows count s (Whole message rest) h =
          let q : Peer = left_with p rest in
          follows_same (Has count) grow (ev.serving_incoming (grow s) key (more piece key p) (Whole message (rest ++ piece))) (ev.serving_incoming s key p (Whole message rest))
          (
          ap (λ (x : Peer). ev.serving_incoming (grow s) key x (Whole message (rest ++ piece))) grown_peer
          ∙ ap (λ (x : Peer). ev.serving_at (grow s) key (message_said message) x p.stage) (sym (left_peer rest))
          ∙ serve_more piece key s (message_said message) q p.stage refl
          )
          (serving_has count s (message_said message) q h p.stage may_speak)
      incoming_follows count s (Faulty fault) h =
          follows_same (Has count) grow (ev.serving_incoming (grow s) key (more piece key p) (Faulty fault)) (ev.serving_incoming s key p (Faulty fault))
          (here piece key s (ev.closing key (cause.Faulty fault)) (closing_natural piece key key (cause.Faulty fault)) (Some p))
          (for_has count s p (ev.closing key (cause.Faulty fault)) (closing_has count (cause.Faulty fault) p))

    unnamed_takes : (p : Peer) (privileged : Bool) → p.stage ≡ Unnamed privileged → Takes p (Unnamed privileged)
    unnamed_takes p privileged is = record { is = is; speaks = tt; grows = refl; left = λ rest. refl }

    named_takes : (p : Peer) (conn : Conn) → p.stage ≡ Named conn → Takes p (Named conn)
    named_takes p conn is = record { is = is; speaks = tt; grows = refl; left = λ rest. refl }

    enough_of : (count : ℕ) (p : Peer) (stage : Stage) → Takes p stage → HasOf (BeginWith count) (Some p) → BeginWith count p.unread
    enough_of count p stage t has = has (may_speak p stage t)

    quiet : (count : ℕ) (s : Standing) (p : Peer) (stage : Stage) → peer_at s key ≡ Some p → p.stage ≡ stage → (MaySpeak stage → ⊥) → Has count s
    quiet count s p stage here is not = subst (λ (o : Option Peer). HasOf (BeginWith count) o) (sym here) (λ speaks. absurd (not (subst (λ (st : Stage). MaySpeak st) is speaks)))

    next_follows : (count : ℕ) (s : Standing) → Has (suc count) s → Follows (Has count) grow (ev.serving_next (grow s) key (peer_at (grow s) key)) (ev.serving_next s key (peer_at s key))
    next_follows count s has =
        subst (λ (o : Option Peer). Follows (Has count) grow (ev.serving_next (grow s) key o) (ev.serving_next s key (peer_at s key))) (sym (peer_with_more piece key s)) (by_peer (peer_at s key) refl has)
      where
        by_stage : (p : Peer) (stage : Stage) → peer_at s key ≡ Some p → p.stage ≡ stage → HasOf (BeginWith (suc count)) (Some p) → Follows (Has count) grow (ev.next_at (grow s) key (more piece key p) stage) (ev.next_at s key p stage)
        by_stage p (Authenticating setting state) is at h = follows_same (Has count) grow (Gives (grow s)) (Gives s) refl (quiet count s p (Authenticating setting state) is at (λ speaks. speaks))
        by_stage p (Closing conn) is at h = follows_same (Has count) grow (Gives (grow s)) (Gives s) refl (quiet count s p (Closing conn) is at (λ speaks. speaks))
        by_stage p (Unnamed privileged) is at h =
            let t = unnamed_takes p privileged at in
            framing_follows p (Unnamed privileged) t (Has count) grow count (λ f. ev.serving_incoming s key p f) (λ f. ev.serving_incoming (grow s) key (more piece key p) f)
            (enough_of (suc count) p (Unnamed privileged) t h) (λ f followed. incoming_follows p (Unnamed privileged) t count s f followed)
        by_stage p (Named conn) is at h =
            let t = named_takes p conn at in
            framing_follows p (Named conn) t (Has count) grow count (λ f. ev.serving_incoming s key p f) (λ f. ev.serving_incoming (grow s) key (more piece key p) f)
            (enough_of (suc count) p (Named conn) t h) (λ f followed. incoming_follows p (Named conn) t count s f followed)

        by_peer : (o : Option Peer) → peer_at s key ≡ o → HasOf (BeginWith (suc count)) o → Follows (Has count) grow (ev.serving_next (grow s) key (more_if piece key o)) (ev.serving_next s key o)
        by_peer None is h = follows_same (Has count) grow (Gives (grow s)) (Gives s) refl (subst (λ (o : Option Peer). HasOf (BeginWith count) o) (sym is) tt)
        by_peer (Some p) is h =
            subst (λ (stage : Stage). Follows (Has count) grow (ev.next_at (grow s) key (more piece key p) stage) (ev.next_at s key p p.stage)) (sym (stage_same piece key p p.stage)) (by_stage p p.stage is refl h)

    -- ## A turn

    -- what was gathered leaves so many
    abbrev GathersWith : ℕ → ev.Gathered → Type 0
    GathersWith count g = Has count g.standing

    apart_follows : (count : ℕ) (joints : List Joint) (s : Standing) → Has (suc count) s → Follows (GathersWith count) grow_all (ev.serving_apart joints (grow s) key) (ev.serving_apart joints s key)
    apart_follows count joints s has =
        follows_then (Has (suc count)) (GathersWith count) grow grow_all (ev.making_all joints (grow s)) (ev.making_all joints s)
        (λ t. and_then (ev.serving_next t key (peer_at t key)) (λ u. ev.gathering_of_one [] u)) (λ t. and_then (ev.serving_next t key (peer_at t key)) (λ u. ev.gathering_of_one [] u))
        (follows_same (Has (suc count)) grow (ev.making_all joints (grow s)) (ev.making_all joints s) (all_more piece key joints s)
        (weaker (Kept (BeginWith (suc count)) key s) (Has (suc count)) (λ t kept. kept has) (ev.making_all joints s) (all_kept (BeginWith (suc count)) key joints s)))
        (λ t enough.
        follows_then (Has count) (GathersWith count) grow grow_all (ev.serving_next (grow t) key (peer_at (grow t) key)) (ev.serving_next t key (peer_at t key)) (λ u. ev.gathering_of_one [] u)
        (λ u. ev.gathering_of_one [] u) (next_follows count t enough)
        (λ u left. follows_same (GathersWith count) grow_all (ev.gathering_of_one [] (grow u)) (ev.gathering_of_one [] u) refl left))

    module _ (count : ℕ) (joints : List Joint) (s : Standing) (has : Has (suc count) s) (message : List ℕ) (q : Peer) (left : BeginWith count q.unread) (conn : Conn) where
      call_follows : (c : RuleCall) → Follows (GathersWith count) grow_all (ev.joining_call joints (grow s) key message (more piece key q) conn c) (ev.joining_call joints s key message q conn c)
      call_follows c =
          let j : Joint = record { key = key; message = message; caller = conn; call = c } in
          let taken : Standing = with_peer s key (Some q) in
          let enough : Has count taken = set_has (BeginWith count) s.peers key (Some q) (λ speaks. left) in
          follows_same (GathersWith count) grow_all (ev.joining_call joints (grow s) key message (more piece key q) conn c) (ev.joining_call joints s key message q conn c)
          (then_behind grow_all (joining (message_said message) conn c) (λ it. ev.after_joining joints taken j it) (λ it. ev.after_joining joints (with_peer (grow s) key (Some (more piece key q))) j it)
          (λ it.
          ap (λ (t : Standing). ev.after_joining joints t j it) (set_of_more piece key s (Some (more piece key q)) ∙ sym (more_of_set piece key s (Some q)))
          ∙ joining_more piece key joints taken j it))
          (then_whatever (GathersWith count) (joining (message_said message) conn c) (λ it. ev.after_joining joints taken j it)
          (λ it. weaker (Gathers (BeginWith count) key taken) (GathersWith count) (λ g kept. kept enough) (ev.after_joining joints taken j it) (joining_kept (BeginWith count) key joints taken j it)))

      reading_follows : (read : Option RuleCall) →
          Follows (GathersWith count) grow_all (ev.joining_reading joints (grow s) key message (more piece key q) conn read) (ev.joining_reading joints s key message q conn read)
      reading_follows None = apart_follows count joints s has
      reading_follows (Some c) = call_follows c

      join_follows : Follows (GathersWith count) grow_all (ev.joining_if joints (grow s) key message (more piece key q) conn true) (ev.joining_if joints s key message q conn true)
      join_follows =
          calling_follows (GathersWith count) grow_all (message_said message) (λ reading. ev.joining_reading joints (grow s) key message (more piece key q) conn (rule_call reading))
          (λ reading. ev.joining_reading joints s key message q conn (rule_call reading)) (λ reading. reading_follows (rule_call reading))

      may_follow : (b : Bool) →
          Follows (GathersWith count) grow_all (if b then Wanting (λ granted. ev.joining_if joints (grow s) key message (more piece key q) conn granted) else ev.serving_apart joints (grow s) key)
          (if b then Wanting (λ granted. ev.joining_if joints s key message q conn granted) else ev.serving_apart joints s key)
      may_follow true =
          wanting_follows (GathersWith count) grow_all (λ granted. ev.joining_if joints (grow s) key message (more piece key q) conn granted) (λ granted. ev.joining_if joints s key message q conn granted) join_follows
      may_follow false = apart_follows count joints s has

      message_follows : (watches : Bool) →
          Follows (GathersWith count) grow_all (ev.gathering_message joints (grow s) key message (more piece key q) conn watches) (ev.gathering_message joints s key message q conn watches)
      message_follows true = apart_follows count joints s has
      message_follows false = may_follow (may_join (message_said message))

    module _ (count : ℕ) (joints : List Joint) (s : Standing) (has : Has (suc count) s) where
      gathered_follows : (p : Peer) (conn : Conn) → Takes p (Named conn) → (incoming : Incoming) → IsFollowed (BeginWith count) incoming →
          Follows (GathersWith count) grow_all (ev.gathering_incoming joints (grow s) key (more piece key p) conn (with_behind piece incoming)) (ev.gathering_incoming joints s key p conn incoming)
      gathered_follows p conn t Waits h = absurd h
      gathered_follows p conn t (Faulty fault) h = apart_follows count joints s has
      gathered_follows p conn t (Whole message rest) h =
          let q : Peer = left_with p rest in
          let same : left_with (more piece key p) (rest ++ piece) ≡ more piece key q = ap (λ (x : Peer). left_with x (rest ++ piece)) (grown_peer p (Named conn) t) ∙ sym (left_peer p (Named conn) t rest) in
          subst (λ (x : Peer). Follows (GathersWith count) grow_all (ev.gathering_message joints (grow s) key message x conn (more piece key p).watches) (ev.gathering_message joints s key message q conn p.watches))
          (sym same)
          (subst (λ (watches : Bool). Follows (GathersWith count) grow_all (ev.gathering_message joints (grow s) key message (more piece key q) conn watches) (ev.gathering_message joints s key message q conn p.watches))
          (sym (watches_same piece key p p.stage)) (message_follows count joints s has message q h conn p.watches))

      gathered_apart_follows : (incoming : Incoming) → IsFollowed (BeginWith count) incoming →
          Follows (GathersWith count) grow_all (ev.serving_incoming_apart joints (grow s) key (with_behind piece incoming)) (ev.serving_incoming_apart joints s key incoming)
      gathered_apart_follows Waits h = absurd h
      gathered_apart_follows (Faulty fault) h = apart_follows count joints s has
      gathered_apart_follows (Whole message rest) h = apart_follows count joints s has

      none_gathered : Has count s → Follows (GathersWith count) grow_all (ev.gathering_of_none joints (grow s)) (ev.gathering_of_none joints s)
      none_gathered left = follows_same (GathersWith count) grow_all (ev.gathering_of_none joints (grow s)) (ev.gathering_of_none joints s) refl left

      gathering_follows : Follows (GathersWith count) grow_all (ev.gathering joints (grow s) key (peer_at (grow s) key)) (ev.gathering joints s key (peer_at s key))
      gathering_follows =
          subst (λ (o : Option Peer). Follows (GathersWith count) grow_all (ev.gathering joints (grow s) key o) (ev.gathering joints s key (peer_at s key))) (sym (peer_with_more piece key s))
          (by_peer (peer_at s key) refl)
        where
          by_stage : (p : Peer) (stage : Stage) → peer_at s key ≡ Some p → p.stage ≡ stage →
              Follows (GathersWith count) grow_all (ev.gathering_at joints (grow s) key (more piece key p) stage) (ev.gathering_at joints s key p stage)
          by_stage p (Authenticating setting state) is at = none_gathered (quiet count s p (Authenticating setting state) is at (λ speaks. speaks))
          by_stage p (Closing conn) is at = none_gathered (quiet count s p (Closing conn) is at (λ speaks. speaks))
          by_stage p (Unnamed privileged) is at =
              let t = unnamed_takes p privileged at in
              framing_follows p (Unnamed privileged) t (GathersWith count) grow_all count (λ f. ev.serving_incoming_apart joints s key f) (λ f. ev.serving_incoming_apart joints (grow s) key f)
              (enough_of (suc count) p (Unnamed privileged) t (subst (λ (o : Option Peer). HasOf (BeginWith (suc count)) o) is has)) (λ f followed. gathered_apart_follows f followed)
          by_stage p (Named conn) is at =
              let t = named_takes p conn at in
              framing_follows p (Named conn) t (GathersWith count) grow_all count (λ f. ev.gathering_incoming joints s key p conn f) (λ f. ev.gathering_incoming joints (grow s) key (more piece key p) conn f)
              (enough_of (suc count) p (Named conn) t (subst (λ (o : Option Peer). HasOf (BeginWith (suc count)) o) is has)) (λ f followed. gathered_follows p conn t f followed)

          by_peer : (o : Option Peer) → peer_at s key ≡ o → Follows (GathersWith count) grow_all (ev.gathering joints (grow s) key (more_if piece key o)) (ev.gathering joints s key o)
          by_peer None is = none_gathered (subst (λ (o : Option Peer). HasOf (BeginWith count) o) (sym is) tt)
          by_peer (Some p) is =
              subst (λ (stage : Stage). Follows (GathersWith count) grow_all (ev.gathering_at joints (grow s) key (more piece key p) stage) (ev.gathering_at joints s key p p.stage)) (sym (stage_same piece key p p.stage))
              (by_stage p p.stage is refl)

    -- one key of a turn
    one_follows : (joints : List Joint) (k : ℕ) (keys : List ℕ) (s : Standing) → Has (asked_of key (k ∷ keys)) s →
        Follows (GathersWith (asked_of key keys)) grow_all (ev.gathering joints (grow s) k (peer_at (grow s) k)) (ev.gathering joints s k (peer_at s k))
    one_follows joints k keys s has =
        let count : ℕ = asked_of key keys in
        elim (eqb_tells k key) [
          | inl h ↦
              subst (λ (n : ℕ). Follows (GathersWith count) grow_all (ev.gathering joints (grow s) n (peer_at (grow s) n)) (ev.gathering joints s n (peer_at s n))) (sym h.1)
              (gathering_follows count joints s (subst (λ (b : Bool). Has (if b then suc count else count) s) h.0 has))
          | inr h ↦
              follows_same (GathersWith count) grow_all (ev.gathering joints (grow s) k (peer_at (grow s) k)) (ev.gathering joints s k (peer_at s k)) (gathering_more piece key k h.1 joints s)
              (weaker (Gathers (BeginWith count) key s) (GathersWith count) (λ g kept. kept (subst (λ (b : Bool). Has (if b then suc count else count) s) h.0 has)) (ev.gathering joints s k (peer_at s k))
              (gathering_kept (BeginWith count) key k h.1 joints s (peer_at s k)))
        ]

    abbrev Any : Standing → Type 0
    Any t = Unit {0}

    any_same : (now before : Stands) → now ≡ seen_as grow before → Follows Any grow now before
    any_same now before same = follows_same Any grow now before same (whatever Any (λ t. tt) before)

    turning_follows : (keys : List ℕ) (joints : List Joint) (begun : Bool) (s : Standing) → Has (asked_of key keys) s → Follows Any grow (ev.turning joints keys begun (grow s)) (ev.turning joints keys begun s)
    turning_follows [] joints begun s has = any_same (ev.making_all joints (grow s)) (ev.making_all joints s) (all_more piece key joints s)
    turning_follows (k ∷ keys) joints false s has =
        follows_then (GathersWith (asked_of key keys)) Any grow_all grow (ev.gathering joints (grow s) k (peer_at (grow s) k)) (ev.gathering joints s k (peer_at s k))
        (λ g. ev.turning g.joints keys g.served g.standing) (λ g. ev.turning g.joints keys g.served g.standing) (one_follows joints k keys s has)
        (λ g enough. turning_follows keys g.joints g.served g.standing enough)
    turning_follows (k ∷ keys) joints true s has =
        let next : Standing → Stands = λ t. and_then (ev.gathering joints t k (peer_at t k)) (λ g. ev.turning g.joints keys true g.standing) in
        let h : Follows Any grow (next (grow s)) (next s) =
        follows_then (GathersWith (asked_of key keys)) Any grow_all grow (ev.gathering joints (grow s) k (peer_at (grow s) k)) (ev.gathering joints s k (peer_at s k))
        (λ g. ev.turning g.joints keys true g.standing) (λ g. ev.turning g.joints keys true g.standing) (one_follows joints k keys s has)
        (λ g enough. turning_follows keys g.joints true g.standing enough) in
        wanting_follows Any grow (λ granted. ev.turning_if joints (grow s) (next (grow s)) granted) (λ granted. ev.turning_if joints s (next s) granted) h

    -- ## Events

    next_of_one : (k : ℕ) (s : Standing) → Has (asked_of key (k ∷ [])) s → Follows Any grow (ev.serving_next (grow s) k (peer_at (grow s) k)) (ev.serving_next s k (peer_at s k))
    next_of_one k s has =
        elim (eqb_tells k key) [
          | inl h ↦
              subst (λ (n : ℕ). Follows Any grow (ev.serving_next (grow s) n (peer_at (grow s) n)) (ev.serving_next s n (peer_at s n))) (sym h.1)
              (λ kn m asked deeds x goes lawful granted. (tt, (next_follows 0 s (subst (λ (b : Bool). Has (if b then 1 else 0) s) h.0 has) kn m asked deeds x goes lawful granted).1))
          | inr h ↦ any_same (ev.serving_next (grow s) k (peer_at (grow s) k)) (ev.serving_next s k (peer_at s k)) (next_more piece key k h.1 s)
        ]

    by_same : (s : Standing) (occasion : Occasion) → ev.script (grow s) occasion ≡ seen_as grow (ev.script s occasion) → Follows Any grow (ev.script (grow s) occasion) (ev.script s occasion)
    by_same s occasion same = any_same (ev.script (grow s) occasion) (ev.script s occasion) same

    -- the connection has all the messages that the event asks for
    abbrev HasAllOf : Standing → Occasion → Type 0
    HasAllOf s (Next k) = Has (asked_of key (k ∷ [])) s
    HasAllOf s (Turn keys) = Has (asked_of key keys) s
    HasAllOf s occasion = Unit {0}

    has_all : (s : Standing) (p : Peer) (occasion : Occasion) → peer_at s key ≡ Some p → HaveAllOf key occasion p.unread → HasAllOf s occasion
    has_all s p (Next k) here h = subst (λ (o : Option Peer). HasOf (BeginWith (asked_of key (k ∷ []))) o) (sym here) (λ speaks. h)
    has_all s p (Turn keys) here h = subst (λ (o : Option Peer). HasOf (BeginWith (asked_of key keys)) o) (sym here) (λ speaks. h)
    has_all s p (Opened k challenge) here h = tt
    has_all s p (Bytes k bytes) here h = tt
    has_all s p (Mail slot number told said) here h = tt
    has_all s p (Closed k) here h = tt
    has_all s p (Full number) here h = tt
    has_all s p (Child e) here h = tt
    has_all s p Tick here h = tt

    event_follows : (s : Standing) (occasion : Occasion) → is_of key occasion ≡ false → HasAllOf s occasion → Follows Any grow (ev.script (grow s) occasion) (ev.script s occasion)
    event_follows s (Next k) not h = next_of_one k s h
    event_follows s (Turn keys) not h = turning_follows keys [] false s h
    event_follows s (Opened k challenge) not h = by_same s (Opened k challenge) (event_more piece key s (Opened k challenge) not tt)
    event_follows s (Bytes k bytes) not h = by_same s (Bytes k bytes) (event_more piece key s (Bytes k bytes) not tt)
    event_follows s (Mail slot number told said) not h = by_same s (Mail slot number told said) (event_more piece key s (Mail slot number told said) not tt)
    event_follows s (Closed k) not h = by_same s (Closed k) (event_more piece key s (Closed k) not tt)
    event_follows s (Full number) not h = by_same s (Full number) (event_more piece key s (Full number) not tt)
    event_follows s (Child e) not h = by_same s (Child e) (event_more piece key s (Child e) not tt)
    event_follows s Tick not h = by_same s Tick (event_more piece key s Tick not tt)

    -- with more bytes behind them it does the same
    pub does_the_same : (s : Standing) (p : Peer) (occasion : Occasion) → is_of key occasion ≡ false → peer_at s key ≡ Some p → HaveAllOf key occasion p.unread →
        (k m : Knowledge) (asked : List Exchange) (deeds : List Deed) (t : Standing) → Goes (ev.script s occasion) asked deeds t → IsLawful true k asked m → IsGranted asked →
        Again (ev.script (grow s) occasion) k m deeds (grow t)
    does_the_same s p occasion not here h k m asked deeds t goes lawful granted = (event_follows s occasion not (has_all s p occasion here h) k m asked deeds t goes lawful granted).1
