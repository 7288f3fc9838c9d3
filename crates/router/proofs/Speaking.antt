-- A connection that has begun its messages never says again who it is.
use Rattle.std.proofs.Common.{◌≡◌, ◌⊎◌, ℕ, zero, suc, Bool, true, Option, Some, None, position, List, [], ◌∷◌, get_or, set, false, refl, sym, subst, inl, inr}
use Rattle.std.specs.Prelude.{IfSome}
use Rattle.std.proofs.lemmas.Bool.{cases_eq}
use Rattle.std.proofs.lemmas.List.{get_or-set_other}
use Rattle.seq_bus_core.specs.declared.connection.Conn.{Conn}
use Rattle.seq_bus_core.specs.declared.error_kind.ErrorKind.TheVariants.{LimitsExceeded}
use Rattle.seq_bus_core.specs.declared.outcome.Outcome.{Outcome}
use Rattle.seq_bus_core.specs.declared.outcome.Reply.{Reply}
use Rattle.seq_bus_core.specs.declared.outcome.Reply.TheVariants.{Welcome}
use Rattle.sasl.specs.Settings.{Login}
use Rattle.message_core.specs.Messages.{Message}
use Rattle.message_core.specs.Said.{said as message_said}
use Rattle.driver.specs.Calls.{is_hello}
use Rattle.outbox_core.specs.Contents.{Said, Relays, Tells, UniqueName}
use Rattle.router_core.specs.declared.cause.CloseCause.{CloseCause}
use Rattle.router_core.specs.declared.cause.CloseCause.TheVariants as cause
use Rattle.router_core.specs.declared.fate.PeerFate.{PeerFate}
use Rattle.router_core.specs.declared.fate.PeerFate.TheVariants as fate
use Rattle.router_core.specs.Answers.{Heard, Says, Refuses, error_for}
use Rattle.router_core.specs.Events.{Mail, Next, OfPeer, with_bytes, closing, after_serving, closing_if_found, closing_former, writing, for_entry, for_peer, refusing_hello, dismissal, greeting, after_hello, after_hello_by, serving_hello, serving_named, serving_at, serving_incoming, next_at, serving_next, mail_delivery}
use Rattle.router_core.specs.Incoming.{Incoming, Waits, Whole, Faulty}
use Rattle.router_core.specs.OneThread.{Rest}
use Rattle.router_core.proofs.Alone.{Readers, Course, alone, effect}
use Rattle.router_core.specs.Scripts.{Script, Gives, Changing, ChangingAll, Asking, Routing, AskingPresence, Noting, Framing, Calling, Gating, Wanting, Requiring, Doing, Announcing, and_then}
use Rattle.router_core.specs.Serving.{replying, serving}
use Rattle.router_core.specs.Standing.{Stage, Authenticating, Unnamed, Named, Closing, Peer, Standing, SpeaksDBus, first_stage, newcomer, with_newcomer, peer_at, with_peer, is_conn}
use Rattle.router_core.proofs.Trimmed.{get-placed}
use Rattle.router.proofs.Endings.{AllGive, then_give, all_give, weaker_give, if_give}
use Rattle.router.proofs.Feeding.{more_if, peer_with_more, rest_more}
use Rattle.router.proofs.Keeping.{IsLike, refusing}

-- over a bus of one thread a script comes to what it may give
module _ (readers : Readers) {X : Type 0} (P : X → Type 0) where
  pub alone_gives : (s : Script X) (c : Course) → AllGive P s → P (alone readers s c).0
  alone_gives (Gives x) c all = all
  alone_gives (Changing change goes_on) c all = alone_gives (goes_on _) _ (all _)
  alone_gives (ChangingAll changes goes_on) c all = alone_gives (goes_on _) _ (all _)
  alone_gives (Asking query goes_on) c all = alone_gives (goes_on _) c (all _)
  alone_gives (Routing from facts goes_on) c all = alone_gives (goes_on _) c (all _)
  alone_gives (AskingPresence number goes_on) c all = alone_gives (goes_on _) c (all _)
  alone_gives (Noting told s) c all = alone_gives s c all
  alone_gives (Framing bytes goes_on) c all = alone_gives (goes_on (readers.incoming bytes)) c (all _)
  alone_gives (Calling m goes_on) c all = alone_gives (goes_on (readers.call m)) c (all _)
  alone_gives (Gating call s) c all = alone_gives s c all
  alone_gives (Wanting goes_on) c all = alone_gives (goes_on true) c (all true)
  alone_gives (Requiring holds s) c all = alone_gives s c all
  alone_gives (Doing deed s) c all = alone_gives s _ all
  alone_gives (Announcing signals s) c all = alone_gives s _ all

abbrev pub Speaks : Peer → Type 0
Speaks p = SpeaksDBus p.stage

-- the connection of the key has begun its messages, if it is there
abbrev pub SpeaksAt : ℕ → Standing → Type 0
SpeaksAt key s = IfSome (peer_at s key) Speaks

set_speaks : (xs : List (Option Peer)) (k key : ℕ) (o : Option Peer) → IfSome (get_or xs key None) Speaks → IfSome o Speaks → IfSome (get_or (set xs k o) key None) Speaks
set_speaks [] k key o speaks new = speaks
set_speaks (x ∷ xs) zero zero o speaks new = new
set_speaks (x ∷ xs) zero (suc j) o speaks new = speaks
set_speaks (x ∷ xs) (suc k) zero o speaks new = speaks
set_speaks (x ∷ xs) (suc k) (suc j) o speaks new = set_speaks xs k j o speaks new

module _ (key : ℕ) where
  with_speaks : (s : Standing) (k : ℕ) (o : Option Peer) → SpeaksAt key s → IfSome o Speaks → SpeaksAt key (with_peer s k o)
  with_speaks s k o speaks new = set_speaks s.peers k key o speaks new

  -- what is done for a connection
  for_speaks : (s : Standing) (k : ℕ) (o : Option Peer) (work : Peer → OfPeer) → SpeaksAt key s → ((p : Peer) → o ≡ Some p → AllGive Speaks (work p)) → AllGive (SpeaksAt key) (for_peer s k o work)
  for_speaks s k None work speaks each = with_speaks s k None speaks tt
  for_speaks s k (Some p) work speaks each =
      then_give (λ q. IfSome q Speaks) (SpeaksAt key) (λ q. Gives (with_peer s k q)) (λ q new. with_speaks s k q speaks new) (for_entry (Some p) work)
      (then_give Speaks (λ q. IfSome q Speaks) (λ q. Gives (Some q)) (λ q new. new) (work p) (each p refl))

  closing_speaks : (s : Standing) (k : ℕ) (o : Option Peer) (why : CloseCause) → SpeaksAt key s → AllGive (SpeaksAt key) (for_peer s k o (λ p. closing k why p))
  closing_speaks s k o why speaks = for_speaks s k o (λ p. closing k why p) speaks (λ p is. tt)

  found_speaks : (s : Standing) (found : Option ℕ) → SpeaksAt key s → AllGive (SpeaksAt key) (closing_if_found s found)
  found_speaks s None speaks = speaks
  found_speaks s (Some k) speaks = closing_speaks s k (peer_at s k) cause.Left speaks

  module _ (m : Message) (p : Peer) (begun : Speaks p) where
    like_speaks : (q : Peer) → IsLike key m p q → Speaks q
    like_speaks q like = subst (λ (stage : Stage). SpeaksDBus stage) (sym like) begun

    turned_away_speaks : (s : Standing) → SpeaksAt key s → AllGive (SpeaksAt key) (for_peer s key (Some p) (dismissal key m))
    turned_away_speaks s speaks =
        for_speaks s key (Some p) (dismissal key m) speaks
        (λ q is. then_give (λ r. Unit {0}) Speaks (λ r. closing key cause.LimitsExceeded r) (λ r done. tt) (refusing_hello key m LimitsExceeded q) (all_give (λ r. Unit {0}) (λ r. tt) (refusing_hello key m LimitsExceeded q)))

    welcome_speaks : (o : Outcome) (conn : Conn) (t : Standing) → SpeaksAt key t → AllGive (SpeaksAt key) (greeting key m p o conn t)
    welcome_speaks o conn t speaks =
        then_give (λ x. Unit {0}) (SpeaksAt key) (λ x. Announcing o.signals (Gives (with_peer t key (Some (record p { stage = Named conn })))))
        (λ x done. with_speaks t key (Some (record p { stage = Named conn })) speaks tt) (replying m conn (UniqueName conn.number)) (all_give (λ x. Unit {0}) (λ x. tt) (replying m conn (UniqueName conn.number)))

    after_hello_by_speaks : (s : Standing) (o : Outcome) (reply : Reply) → SpeaksAt key s → AllGive (SpeaksAt key) (after_hello_by s key m p o reply)
    after_hello_by_speaks s o (Welcome conn) speaks =
        then_give (SpeaksAt key) (SpeaksAt key) (λ t. greeting key m p o conn t) (λ t so. welcome_speaks o conn t so) (closing_former s conn) (found_speaks s _ speaks)
    after_hello_by_speaks s o other speaks = turned_away_speaks s speaks

    after_hello_speaks : (s : Standing) (heard : Heard Outcome) → SpeaksAt key s → AllGive (SpeaksAt key) (after_hello s key m p heard)
    after_hello_speaks s (Says o) speaks = after_hello_by_speaks s o o.reply speaks
    after_hello_speaks s (Refuses refusal) speaks =
        for_speaks s key (Some p) (refusing_hello key m (error_for refusal)) speaks
        (λ q is. weaker_give (IsLike key m q) Speaks (λ r like. subst (λ (stage : Stage). SpeaksDBus stage) (sym like) (of_it q is)) (refusing_hello key m (error_for refusal) q) (refusing key m q (error_for refusal)))
      where
        of_it : (q : Peer) → ◌≡◌ {A = Option Peer} (Some p) (Some q) → Speaks q
        of_it q is = subst (λ (o : Option Peer). IfSome o Speaks) is begun

    fated_speaks : (fate : PeerFate) (q : Peer) → Speaks q → AllGive Speaks (after_serving key fate q)
    fated_speaks fate.Stays q speaks = speaks
    fated_speaks fate.Watches q speaks = speaks
    fated_speaks (fate.Closes why) q speaks = tt

    named_speaks : (s : Standing) (conn : Conn) (watches : Bool) → SpeaksAt key s → AllGive (SpeaksAt key) (serving_named s key m p conn watches)
    named_speaks s conn true speaks = closing_speaks s key (Some p) cause.MonitorSent speaks
    named_speaks s conn false speaks =
        for_speaks s key (Some p) (λ q. and_then (serving m conn) (λ fate. after_serving key fate q)) speaks
        (λ q is. then_give (λ fate. Unit {0}) Speaks (λ fate. after_serving key fate q) (λ fate done. fated_speaks fate q (subst (λ (o : Option Peer). IfSome o Speaks) is begun)) (serving m conn)
        (all_give (λ fate. Unit {0}) (λ fate. tt) (serving m conn)))

    serve_speaks : (s : Standing) (stage : Stage) → SpeaksAt key s → AllGive (SpeaksAt key) (serving_at s key m p stage)
    serve_speaks s (Authenticating setting state) speaks = speaks
    serve_speaks s (Unnamed privileged) speaks =
        if_give (SpeaksAt key) (is_hello m) (serving_hello s key m p privileged) (for_peer s key (Some p) (closing key cause.NotHello)) (λ heard. after_hello_speaks s heard speaks) (closing_speaks s key (Some p) cause.NotHello speaks)
    serve_speaks s (Named conn) speaks = named_speaks s conn p.watches speaks
    serve_speaks s (Closing conn) speaks = speaks

  read_speaks : (s : Standing) (p : Peer) (incoming : Incoming) → SpeaksAt key s → Speaks p → AllGive (SpeaksAt key) (serving_incoming s key p incoming)
  read_speaks s p Waits speaks begun = speaks
  read_speaks s p (Faulty fault) speaks begun = closing_speaks s key (Some p) (cause.Faulty fault) speaks
  read_speaks s p (Whole bytes rest) speaks begun = serve_speaks (message_said bytes) (record p { unread = rest }) begun s p.stage speaks

  next_at_speaks : (s : Standing) (p : Peer) (stage : Stage) → SpeaksAt key s → Speaks p → AllGive (SpeaksAt key) (next_at s key p stage)
  next_at_speaks s p (Authenticating setting state) speaks begun = speaks
  next_at_speaks s p (Unnamed privileged) speaks begun = λ incoming. read_speaks s p incoming speaks begun
  next_at_speaks s p (Named conn) speaks begun = λ incoming. read_speaks s p incoming speaks begun
  next_at_speaks s p (Closing conn) speaks begun = speaks

  next_speaks_at : (s : Standing) (o : Option Peer) → SpeaksAt key s → IfSome o Speaks → AllGive (SpeaksAt key) (serving_next s key o)
  next_speaks_at s None speaks begun = speaks
  next_speaks_at s (Some p) speaks begun = next_at_speaks s p p.stage speaks begun

  -- mail changes no stage
  write_like : (k : ℕ) (said : Said) (p : Peer) → AllGive (λ q. q.stage ≡ p.stage) (writing k said p)
  write_like k (Relays bytes) p = refl
  write_like k (Tells own) p = refl

  mail_speaks_at : (s : Standing) (said : Said) (found : Option ℕ) → SpeaksAt key s → AllGive (SpeaksAt key) (mail_delivery s said found)
  mail_speaks_at s said None speaks = speaks
  mail_speaks_at s said (Some k) speaks = by_key (cases_eq key k)
    where
      of_peer : (p : Peer) → AllGive (λ q. q.stage ≡ p.stage) (writing k said p)
      of_peer p = write_like k said p

      by_key : (key ≡ k) ⊎ (key ≡ k → ⊥) → AllGive (SpeaksAt key) (mail_delivery s said (Some k))
      by_key (inl same) =
          for_speaks s k (peer_at s k) (writing k said) speaks
          (λ p is. weaker_give (λ q. q.stage ≡ p.stage) Speaks
          (λ q like. subst (λ (stage : Stage). SpeaksDBus stage) (sym like) (subst (λ (o : Option Peer). IfSome o Speaks) is (subst (λ (n : ℕ). IfSome (peer_at s n) Speaks) same speaks)))
          (writing k said p) (of_peer p))
      by_key (inr apart) =
          then_give (λ q. Unit {0}) (SpeaksAt key) (λ q. Gives (with_peer s k q)) (λ q done. subst (λ (o : Option Peer). IfSome o Speaks) (sym (get_or-set_other s.peers k key q None apart)) speaks)
          (for_entry (peer_at s k) (writing k said)) (all_give (λ q. Unit {0}) (λ q. tt) (for_entry (peer_at s k) (writing k said)))

module _ (readers : Readers) (key : ℕ) where
  pub next_speaks : (r : Rest) → SpeaksAt key r.standing → SpeaksAt key (effect readers r (Next key)).1.standing
  next_speaks r speaks = alone_gives readers (SpeaksAt key) (serving_next r.standing key (peer_at r.standing key)) (record { view = r.view; deeds = [] }) (next_speaks_at key r.standing (peer_at r.standing key) speaks speaks)

  pub mail_speaks : (r : Rest) (slot number : ℕ) (said : Said) → SpeaksAt key r.standing → SpeaksAt key (effect readers r (Mail slot number None said)).1.standing
  mail_speaks r slot number said speaks =
      let found : Option ℕ = position (is_conn slot number) r.standing.peers in
      alone_gives readers (SpeaksAt key) (mail_delivery r.standing said found) (record { view = r.view; deeds = [] }) (mail_speaks_at key r.standing said found speaks)

-- ## Bytes, and a connection that comes

more_stage : (piece : List ℕ) (p : Peer) (stage : Stage) → Speaks p → Speaks (with_bytes piece p stage)
more_stage piece p (Authenticating setting state) begun = begun
more_stage piece p (Unnamed privileged) begun = begun
more_stage piece p (Named conn) begun = begun
more_stage piece p (Closing conn) begun = begun

pub more_speaks : (piece : List ℕ) (key : ℕ) (r : Rest) → SpeaksAt key r.standing → SpeaksAt key (rest_more piece key r).standing
more_speaks piece key r speaks = subst (λ (o : Option Peer). IfSome o Speaks) (sym (peer_with_more piece key r.standing)) (of_peer (peer_at r.standing key) speaks)
  where
    of_peer : (o : Option Peer) → IfSome o Speaks → IfSome (more_if piece key o) Speaks
    of_peer None begun = tt
    of_peer (Some p) begun = more_stage piece p p.stage begun

-- A connection that nobody challenges speaks D-Bus from its first byte on.
pub comes_speaking : (s : Standing) (key : ℕ) → SpeaksAt key (with_newcomer s key None)
comes_speaking s key = subst (λ (o : Option Peer). IfSome o Speaks) (sym (get-placed s.peers key (newcomer (first_stage s.login None)))) (unasked s.login)
  where
    unasked : (login : Option Login) → SpeaksDBus (first_stage login None)
    unasked None = tt
    unasked (Some login) = tt
