-- No connection gets a slot but by its Hello.
use Rattle.std.proofs.Common.{◌≡◌, ◌≢◌, ℕ, zero, suc, ◌<◌, Bool, true, false, not, ◌+◌, Option, Some, None, List, [], ◌∷◌, ◌++◌, length, get_or, set, position, cond, nat_lt, refl, sym, ap, ◌∙◌, subst, inl, inr, arith, append_assoc}
use Rattle.std.proofs.lemmas.Bool.{false≢true, cases_Bool, cases_eq, eqb-true, eq-eqb, lt-ltb}
use Rattle.std.proofs.lemmas.List.{append-nil, get_or-set_other}
use Rattle.std.specs.List.{position_or_len}
use Rattle.seq_bus_core.specs.Histories.{History}
use Rattle.seq_bus_core.specs.declared.connection.Conn.{Conn}
use Rattle.seq_bus_core.specs.declared.error_kind.ErrorKind.{ErrorKind}
use Rattle.seq_bus_core.specs.declared.error_kind.ErrorKind.TheVariants as error
use Rattle.seq_bus_core.specs.declared.outcome.Outcome.{Outcome}
use Rattle.seq_bus_core.specs.declared.outcome.Reply.{Reply}
use Rattle.seq_bus_core.specs.declared.outcome.Reply.TheVariants.{Welcome}
use Rattle.seq_bus_core.specs.declared.verdict.Verdict.{Verdict}
use Rattle.sasl.specs.declared.phase.Phase.{Phase}
use Rattle.sasl.specs.declared.phase.Phase.TheVariants.{WaitingForNul, WaitingForAuth, WaitingForData, WaitingForBegin, Done, Closed}
use Rattle.sasl.specs.Settings.{Setting}
use Rattle.sasl.specs.Hearing.{Conversed, conversed}
use Rattle.message_core.specs.Messages.{Message}
use Rattle.message_core.specs.Said.{said as message_said}
use Rattle.message.specs.FactsOf.{facts_of}
use Rattle.driver.specs.Calls.{expects_reply, is_hello}
use Rattle.outbox_core.specs.Contents.{Said, Relays, Tells, Own, Errs, UniqueName, bus_message}
use Rattle.router_core.specs.declared.cause.CloseCause.{CloseCause}
use Rattle.router_core.specs.declared.cause.CloseCause.TheVariants as cause
use Rattle.router_core.specs.declared.fate.PeerFate.{PeerFate}
use Rattle.router_core.specs.declared.fate.PeerFate.TheVariants as fate
use Rattle.router_core.specs.Answers.{Heard, Says, Refuses, error_for}
use Rattle.router_core.specs.Deeds.{GatedCall}
use Rattle.router_core.specs.Events.{OfPeer, closing, after_serving, closing_at, closing_if_found, closing_former, writing, for_entry, for_peer, hearing, answering, after_conversing, conversing_if, refusing_routed, refusing_hello, dismissal, greeting, after_hello, after_hello_by, serving_hello, serving_named, serving_at, serving_incoming, serving_next, next_at, after_check, checking_presence, checking_each}
use Rattle.router_core.specs.Incoming.{Incoming, Waits, Whole, Faulty}
use Rattle.router_core.specs.Scripts.{Gives, Routing, Announcing, World, Comes, and_then}
use Rattle.router_core.specs.Serving.{monitors_in, replying, serving}
use Rattle.router_core.specs.Standing.{Peer, Standing, Stage, Authenticating, Unnamed, Named, Closing, peer_at, with_peer, next_serial, has_slot, closing_peer}
use Rattle.router_steps.specs.Noting.{after_noting}
use Rattle.router_steps.specs.Refusing.{hello_of}
use Rattle.router.proofs.Endings.{AllGive, given, then_give, all_give, weaker_give, if_give, putting_give}
use Rattle.router.proofs.Indexing.{Keeps, KeepsAll, like_keeps}

-- ---- one connection

hear_keeps : (key : ℕ) (piece : List ℕ) (p : Peer) → AllGive (λ q. Keeps (Some p) (Some q)) (hearing key piece p p.stage)
hear_keeps key piece p = in_stage p.stage
  where
    -- a connection that says who it is has no slot, and gets none
    in_phase : (q : Peer) (setting : Setting) (said : Conversed) (phase : Phase) → AllGive (λ r. Keeps (Some q) (Some r)) (after_conversing key setting said phase q)
    in_phase q setting said WaitingForNul = λ slot has. absurd (false≢true has)
    in_phase q setting said WaitingForAuth = λ slot has. absurd (false≢true has)
    in_phase q setting said (WaitingForData due) = λ slot has. absurd (false≢true has)
    in_phase q setting said (WaitingForBegin identity) = λ slot has. absurd (false≢true has)
    in_phase q setting said (Done identity) = λ slot has. absurd (false≢true has)
    in_phase q setting said (Closed fault) = λ slot has. absurd (false≢true has)

    answering_keeps : (q : Peer) (sent : List ℕ) (s : OfPeer) → AllGive (λ r. Keeps (Some q) (Some r)) s → AllGive (λ r. Keeps (Some q) (Some r)) (answering key sent s)
    answering_keeps q [] s all = all
    answering_keeps q (b ∷ bytes) s all = all

    by_grant : (q : Peer) (setting : Setting) (said : Conversed) (granted : Bool) → AllGive (λ r. Keeps (Some q) (Some r)) (conversing_if key setting said q granted)
    by_grant q setting said true = answering_keeps q said.sent (after_conversing key setting said said.state.phase q) (in_phase q setting said said.state.phase)
    by_grant q setting said false = λ slot has. absurd (false≢true has)

    in_stage : (stage : Stage) → AllGive (λ q. Keeps (Some (record p { stage = stage })) (Some q)) (hearing key piece (record p { stage = stage }) stage)
    in_stage (Authenticating setting state) = λ granted. by_grant (record p { stage = Authenticating setting state }) setting (conversed setting state [] (p.unread ++ piece)) granted
    in_stage (Unnamed privileged) = λ slot has. has
    in_stage (Named conn) = λ slot has. has
    in_stage (Closing conn) = λ slot has. has

pub feeding : (key : ℕ) (piece : List ℕ) (old : Option Peer) → AllGive (λ new. Keeps old new) (for_entry old (λ p. hearing key piece p p.stage))
feeding key piece None = λ slot has. has
feeding key piece (Some p) = then_give (λ q. Keeps (Some p) (Some q)) (λ new. Keeps (Some p) new) (λ q. Gives (Some q)) (λ q keeps. keeps) (hearing key piece p p.stage) (hear_keeps key piece p)

-- one that is closed has no slot
pub leaving : (key : ℕ) (why : CloseCause) (old : Option Peer) → AllGive (λ new. Keeps None new) (for_entry old (λ p. closing key why p))
leaving key why None = λ slot has. has
leaving key why (Some p) = λ slot has. has

writing_there : (key : ℕ) (said : Said) (p : Peer) → AllGive (λ new. Keeps (Some p) new) (for_entry (Some p) (writing key said))
writing_there key (Relays bytes) p = λ slot has. has
writing_there key (Tells own) p = λ slot has. has

writing_keeps : (key : ℕ) (said : Said) (old : Option Peer) → AllGive (λ new. Keeps old new) (for_entry old (writing key said))
writing_keeps key said None = λ slot has. has
writing_keeps key said (Some p) = writing_there key said p

pub bringing : (held : Option History) (key : ℕ) (said : Said) (old : Option Peer) → AllGive (λ new. Keeps old new) (after_noting held (for_entry old (writing key said)))
bringing None key said old = writing_keeps key said old
bringing (Some told) key said old = writing_keeps key said old

-- ---- all connections, as time passes

check_keeps : (key : ℕ) (old : Option Peer) → AllGive (λ new. Keeps old new) (for_entry old (λ p. checking_presence key p p.stage))
check_keeps key None = λ slot has. has
check_keeps key (Some p) = in_stage p.stage
  where
    heard_keeps : (conn : Conn) (heard : Heard Bool) → AllGive (λ new. Keeps (Some (record p { stage = Named conn })) new) (and_then (after_check key (record p { stage = Named conn }) heard) (λ q. Gives (Some q)))
    heard_keeps conn (Says true) = λ slot has. has
    heard_keeps conn (Says false) = λ slot has. absurd (false≢true has)
    heard_keeps conn (Refuses refusal) = λ slot has. has

    in_stage : (stage : Stage) → AllGive (λ new. Keeps (Some (record p { stage = stage })) new) (and_then (checking_presence key (record p { stage = stage }) stage) (λ q. Gives (Some q)))
    in_stage (Authenticating setting state) = λ slot has. has
    in_stage (Unnamed privileged) = λ slot has. has
    in_stage (Named conn) = heard_keeps conn
    in_stage (Closing conn) = λ slot has. has

keeps_more : (x y : Option Peer) (xs ys : List (Option Peer)) → Keeps x y → KeepsAll xs ys → KeepsAll (x ∷ xs) (y ∷ ys)
keeps_more x y xs ys here rest zero = here
keeps_more x y xs ys here rest (suc k) = rest k

-- those behind the ones that were asked for
abbrev KeepsRest : List (Option Peer) → List (Option Peer) → List (Option Peer) → Type 0
KeepsRest done old all = (new : List (Option Peer)) × (all ≡ done ++ new) × KeepsAll old new

checking : (done old : List (Option Peer)) → AllGive (λ all. KeepsRest done old all) (checking_each done old)
checking done [] = ([], sym (append-nil done), λ k slot has. has)
checking done (x ∷ xs) =
    then_give (λ y. Keeps x y) (λ all. KeepsRest done (x ∷ xs) all) (λ y. checking_each (done ++ y ∷ []) xs)
    (λ y here.
    weaker_give (λ all. KeepsRest (done ++ y ∷ []) xs all) (λ all. KeepsRest done (x ∷ xs) all)
    (λ all rest. (y ∷ rest.0, rest.1 ∙ append_assoc done (y ∷ []) rest.0, keeps_more x y xs rest.0 here rest.2))
    (checking_each (done ++ y ∷ []) xs) (checking (done ++ y ∷ []) xs))
    (for_entry x (λ p. checking_presence (length done) p p.stage)) (check_keeps (length done) x)

-- ---- the next message

-- A list in which two connections stand, one after the other.
two : ℕ → Option Peer → Option Peer → List (Option Peer)
two zero x y = x ∷ y ∷ []
two (suc k) x y = None ∷ two k x y

first_of : (k : ℕ) (x y : Option Peer) → get_or (two k x y) k None ≡ x
unfolding two
first_of zero x y = refl
first_of (suc k) x y = first_of k x y

set_first : (k : ℕ) (x y z : Option Peer) → set (two k x y) k z ≡ two k z y
unfolding two
set_first zero x y z = refl
set_first (suc k) x y z = ap (λ xs. None ∷ xs) (set_first k x y z)

second_of : (k : ℕ) (x y : Option Peer) → get_or (two k x y) (suc k) None ≡ y
unfolding two
second_of zero x y = refl
second_of (suc k) x y = second_of k x y

length_two : (k : ℕ) (x y : Option Peer) → length (two k x y) ≡ suc (suc k)
unfolding two
length_two zero x y = refl
length_two (suc k) x y = ap suc (length_two k x y)

place_of_second : (slot k : ℕ) (x y : Option Peer) → has_slot slot x ≡ false → has_slot slot y ≡ true → position_or_len (has_slot slot) (two k x y) ≡ suc k
unfolding two
place_of_second slot zero x y isnt is =
    ap (λ b. cond (not b) (1 + cond (not (has_slot slot y)) 1 0) 0) isnt ∙ ap (λ b. 1 + cond (not b) 1 0) is
place_of_second slot (suc k) x y isnt is = omega (arith, place_of_second slot k x y isnt is)

second_is_found : (slot k : ℕ) (x y : Option Peer) → has_slot slot x ≡ false → has_slot slot y ≡ true → position (has_slot slot) (two k x y) ≡ Some (suc k)
second_is_found slot k x y isnt is =
    let inside : suc k < length (two k x y) = omega (arith, length_two k x y) in
    ap (λ n. cond (nat_lt n (length (two k x y))) (Some n) None) (place_of_second slot k x y isnt is)
    ∙ ap (λ b. cond b (Some (suc k)) None) (lt-ltb (suc k) (length (two k x y)) inside)

-- what is read where something was written is that, or nothing
written_keeps : (xs : List (Option Peer)) (k : ℕ) (x : Option Peer) → Keeps x (get_or (set xs k x) k None)
written_keeps [] k x = λ slot has. absurd (false≢true has)
written_keeps (y ∷ ys) zero x = λ slot has. has
written_keeps (y ∷ ys) (suc k) x = written_keeps ys k x

-- a connection for which something is done
module _ (u : Standing) (key : ℕ) (p : Peer) (work : Peer → OfPeer) (Q : Peer → Type 0) (P : Standing → Type 0) (later : (q : Peer) → Q q → P (with_peer u key (Some q))) where
  for_give : AllGive Q (work p) → AllGive P (for_peer u key (Some p) work)
  for_give all =
      then_give (λ o. P (with_peer u key o)) P (λ o. Gives (with_peer u key o)) (λ o done. done) (for_entry (Some p) work)
      (then_give Q (λ o. P (with_peer u key o)) (λ q. Gives (Some q)) later (work p) all)

-- An error leaves a connection at its stage.
module _ (key : ℕ) (m : Message) (p : Peer) where
  abbrev pub IsLike : Peer → Type 0
  IsLike q = q.stage ≡ p.stage

  refused_by : (own : Own) (heard : Heard Verdict) → AllGive IsLike (refusing_routed key own p heard)
  refused_by own heard = putting_give IsLike (monitors_in heard) (Tells own) (Gives (record p { serial = next_serial p.serial })) refl

  pub refusing : (kind : ErrorKind) → AllGive IsLike (refusing_hello key m kind p)
  refusing kind =
      let own = Errs (hello_of m) kind in
      if_give IsLike (expects_reply m) (Routing 0 (facts_of (bus_message 1 own)) (λ heard. refusing_routed key own p heard)) (Gives p) (λ heard. refused_by own heard) refl

  -- one that is turned away has no slot
  pub turning_away : AllGive (λ q. Keeps None (Some q)) (dismissal key m p)
  turning_away =
      then_give IsLike (λ q. Keeps None (Some q)) (λ q. closing key cause.LimitsExceeded q) (λ q like. λ slot has. has) (refusing_hello key m error.LimitsExceeded p) (refusing error.LimitsExceeded)

refusing_in : (key : ℕ) (m : Message) (kind : ErrorKind) (old : Option Peer) → AllGive (λ new. Keeps old new) (for_entry old (refusing_hello key m kind))
refusing_in key m kind None = λ slot has. has
refusing_in key m kind (Some p) =
    then_give (IsLike key m p) (λ new. Keeps (Some p) new) (λ q. Gives (Some q)) (λ q like. like_keeps p q like) (refusing_hello key m kind p) (refusing key m p kind)

turning_away_in : (key : ℕ) (m : Message) (old : Option Peer) → AllGive (λ new. Keeps None new) (for_entry old (dismissal key m))
turning_away_in key m None = λ slot has. has
turning_away_in key m (Some p) =
    then_give (λ q. Keeps None (Some q)) (λ new. Keeps None new) (λ q. Gives (Some q)) (λ q keeps. keeps) (dismissal key m p) (turning_away key m p)

-- A connection without a name, or a slot that is another's.
module _ (slot key : ℕ) where
  -- the connection and the one behind it have not both the slot
  abbrev NotBoth : Standing → Type 0
  NotBoth u = has_slot slot (get_or u.peers key None) ≡ true → has_slot slot (get_or u.peers (suc key) None) ≡ true → ⊥

  abbrev HasNot : Option Peer → Type 0
  HasNot o = has_slot slot o ≡ true → ⊥

  not_first : (u : Standing) (q : Option Peer) → HasNot q → NotBoth (with_peer u key q)
  not_first u q hasnt = λ first second. hasnt (written_keeps u.peers key q slot first)

  not_second : (u : Standing) (q : Option Peer) → HasNot (get_or u.peers (suc key) None) → NotBoth (with_peer u key q)
  not_second u q hasnt = λ first second.
      let other : suc key ≢ key = λ e. absurd (omega (arith, e)) in
      hasnt (subst (λ o. has_slot slot o ≡ true) (get_or-set_other u.peers key (suc key) q None other) second)

  unnamed_has_not : (q : Peer) (privileged : Bool) → q.stage ≡ Unnamed privileged → HasNot (Some q)
  unnamed_has_not q privileged is = λ has.
      let r : Peer = record q { stage = Unnamed privileged } in
      let same : q ≡ r = λ i. record q { stage = is i } in
      false≢true (subst (λ x. has_slot slot (Some x) ≡ true) same has)

  module _ (m : Message) (p : Peer) (privileged : Bool) (unnamed : p.stage ≡ Unnamed privileged) where
    turned_away : (u : Standing) → AllGive NotBoth (for_peer u key (Some p) (dismissal key m))
    turned_away u =
        for_give u key p (dismissal key m) (λ q. Keeps None (Some q)) NotBoth (λ q keeps. not_first u (Some q) (λ has. false≢true (keeps slot has))) (turning_away key m p)

    refused : (u : Standing) (kind : ErrorKind) → AllGive NotBoth (for_peer u key (Some p) (refusing_hello key m kind))
    refused u kind =
        for_give u key p (refusing_hello key m kind) (IsLike key m p) NotBoth (λ q like. not_first u (Some q) (unnamed_has_not q privileged (like ∙ unnamed))) (refusing key m p kind)

    welcoming : (o : Outcome) (conn : Conn) (u : Standing) → ((q : Peer) → NotBoth (with_peer u key (Some (record q { stage = Named conn })))) → AllGive NotBoth (greeting key m p o conn u)
    welcoming o conn u done =
        then_give (λ x. Unit {0}) NotBoth (λ x. Announcing o.signals (Gives (with_peer u key (Some (record p { stage = Named conn }))))) (λ x y. done p) (replying m conn (UniqueName conn.number))
        (all_give (λ x. Unit {0}) (λ x. tt) (replying m conn (UniqueName conn.number)))

    -- whoever had the slot is closed
    closing_second : (u : Standing) (found : Option ℕ) → found ≡ Some (suc key) → AllGive (λ t. HasNot (get_or t.peers (suc key) None)) (closing_if_found u found)
    closing_second u found is = subst (λ f. AllGive (λ t. HasNot (get_or t.peers (suc key) None)) (closing_if_found u f)) (sym is) (of_it (peer_at u (suc key)))
      where
        of_it : (o : Option Peer) → AllGive (λ t. HasNot (get_or t.peers (suc key) None)) (closing_at u (suc key) o)
        of_it None = λ has. false≢true (written_keeps u.peers (suc key) None slot has)
        of_it (Some q) = λ has. false≢true (written_keeps u.peers (suc key) (Some (closing_peer q)) slot has)

    welcomed_by : (x y : Option Peer) (o : Outcome) (conn : Conn) → has_slot slot x ≡ false → has_slot slot y ≡ true →
        AllGive NotBoth (and_then (closing_former (record { peers = two key x y; due_leaves = []; login = None }) conn) (λ t. greeting key m p o conn t))
    welcomed_by x y o conn isnt is =
        let s : Standing = record { peers = two key x y; due_leaves = []; login = None } in
        elim (cases_eq conn.slot slot) [
          | inl e ↦
              let found : position (has_slot conn.slot) s.peers ≡ Some (suc key) = subst (λ n. position (has_slot n) s.peers ≡ Some (suc key)) (sym e) (second_is_found slot key x y isnt is) in
              then_give (λ t. HasNot (get_or t.peers (suc key) None)) NotBoth (λ t. greeting key m p o conn t)
              (λ t hasnt. welcoming o conn t (λ q. not_second t (Some (record q { stage = Named conn })) hasnt))
              (closing_former s conn) (closing_second s (position (has_slot conn.slot) s.peers) found)
          | inr ne ↦
              then_give (λ t. Unit {0}) NotBoth (λ t. greeting key m p o conn t)
              (λ t done. welcoming o conn t (λ q. not_first t (Some (record q { stage = Named conn })) (λ has. ne (eqb-true conn.slot slot has))))
              (closing_former s conn) (all_give (λ t. Unit {0}) (λ t. tt) (closing_former s conn))
        ]

    hello_served : (x y : Option Peer) (known : Bool) → has_slot slot x ≡ false → has_slot slot y ≡ true → AllGive NotBoth (serving_hello (record { peers = two key x y; due_leaves = []; login = None }) key m p known)
    hello_served x y known isnt is = by_answer
      where
        by_reply : (o : Outcome) (reply : Reply) → AllGive NotBoth (after_hello_by (record { peers = two key x y; due_leaves = []; login = None }) key m p o reply)
        by_reply o (Welcome conn) = welcomed_by x y o conn isnt is
        by_reply o other = turned_away (record { peers = two key x y; due_leaves = []; login = None })

        by_answer : (heard : Heard Outcome) → AllGive NotBoth (after_hello (record { peers = two key x y; due_leaves = []; login = None }) key m p heard)
        by_answer (Says o) = by_reply o o.reply
        by_answer (Refuses refusal) = refused (record { peers = two key x y; due_leaves = []; login = None }) (error_for refusal)

  module _ (y : Option Peer) (has_second : has_slot slot y ≡ true) where
    abbrev standing_of : Option Peer → Standing
    standing_of x = record { peers = two key x y; due_leaves = []; login = None }

    as_it_was : (x : Option Peer) → has_slot slot x ≡ false → NotBoth (standing_of x)
    as_it_was x isnt = λ first second. false≢true (sym isnt ∙ ap (has_slot slot) (sym (first_of key x y)) ∙ first)

    serving_keeps : (p : Peer) (m : Message) (rest : List ℕ) (stage : Stage) → has_slot slot (Some (record p { stage = stage })) ≡ false → AllGive NotBoth (serving_at (standing_of (Some (record p { stage = stage }))) key m (record p { stage = stage; unread = rest }) stage)
    serving_keeps p m rest (Authenticating setting state) isnt = as_it_was (Some (record p { stage = Authenticating setting state })) isnt
    serving_keeps p m rest (Closing conn) isnt = as_it_was (Some (record p { stage = Closing conn })) isnt
    serving_keeps p m rest (Unnamed privileged) isnt =
        let s : Standing = standing_of (Some (record p { stage = Unnamed privileged })) in
        let q : Peer = record p { stage = Unnamed privileged; unread = rest } in
        if_give NotBoth (is_hello m) (serving_hello s key m q privileged) (for_peer s key (Some q) (closing key cause.NotHello))
        (hello_served m q privileged refl (Some (record p { stage = Unnamed privileged })) y privileged isnt has_second)
        (not_first s (Some (closing_peer q)) (λ has. false≢true has))
    serving_keeps p m rest (Named conn) isnt = if_watches p.watches
      where
        s : Standing
        s = standing_of (Some (record p { stage = Named conn }))

        q : Peer
        q = record p { stage = Named conn; unread = rest }

        by_fate : (fate : PeerFate) → AllGive (λ r. HasNot (Some r)) (after_serving key fate q)
        by_fate fate.Stays = λ has. false≢true (sym isnt ∙ has)
        by_fate fate.Watches = λ has. false≢true (sym isnt ∙ has)
        by_fate (fate.Closes why) = λ has. false≢true has

        if_watches : (watches : Bool) → AllGive NotBoth (serving_named s key m q conn watches)
        if_watches true = not_first s (Some (closing_peer q)) (λ has. false≢true has)
        if_watches false =
            for_give s key q (λ r. and_then (serving m conn) (λ fate. after_serving key fate r)) (λ r. HasNot (Some r)) NotBoth (λ r hasnt. not_first s (Some r) hasnt)
            (then_give (λ fate. Unit {0}) (λ r. HasNot (Some r)) (λ fate. after_serving key fate q) (λ fate done. by_fate fate) (serving m conn) (all_give (λ fate. Unit {0}) (λ fate. tt) (serving m conn)))

    reading : (p : Peer) (stage : Stage) → has_slot slot (Some (record p { stage = stage })) ≡ false → (incoming : Incoming) → AllGive NotBoth (serving_incoming (standing_of (Some (record p { stage = stage }))) key (record p { stage = stage }) incoming)
    reading p stage isnt Waits = as_it_was (Some (record p { stage = stage })) isnt
    reading p stage isnt (Faulty fault) = not_first (standing_of (Some (record p { stage = stage }))) (Some (closing_peer (record p { stage = stage }))) (λ has. false≢true has)
    reading p stage isnt (Whole bytes rest) = serving_keeps p (message_said bytes) rest stage isnt

    coming : (x : Option Peer) → has_slot slot x ≡ false → AllGive NotBoth (serving_next (standing_of x) key x)
    coming None isnt = as_it_was None isnt
    coming (Some p) isnt = in_stage p.stage isnt
      where
        in_stage : (stage : Stage) → has_slot slot (Some (record p { stage = stage })) ≡ false → AllGive NotBoth (next_at (standing_of (Some (record p { stage = stage }))) key (record p { stage = stage }) stage)
        in_stage (Authenticating setting state) isnt = as_it_was (Some (record p { stage = Authenticating setting state })) isnt
        in_stage (Unnamed privileged) isnt = reading p (Unnamed privileged) isnt
        in_stage (Named conn) isnt = reading p (Named conn) isnt
        in_stage (Closing conn) isnt = as_it_was (Some (record p { stage = Closing conn })) isnt

-- ---- what came

module _ {N G : Type 0} (told : N → History) (registry_of : N → ℕ) (passes : G → GatedCall → G → Type 0) (alone : Bool) (w v : World N G) where
  pub feed_keeps : (key : ℕ) (piece : List ℕ) (old new : Option Peer) → Comes told registry_of passes alone (for_entry old (λ p. hearing key piece p p.stage)) w new v → Keeps old new
  feed_keeps key piece old new came = given told registry_of passes alone (λ o. Keeps old o) new v (for_entry old (λ p. hearing key piece p p.stage)) w (feeding key piece old) came

  pub closed_has_none : (key : ℕ) (why : CloseCause) (old new : Option Peer) → Comes told registry_of passes alone (for_entry old (λ p. closing key why p)) w new v → Keeps None new
  closed_has_none key why old new came = given told registry_of passes alone (λ o. Keeps None o) new v (for_entry old (λ p. closing key why p)) w (leaving key why old) came

  pub brought_keeps : (held : Option History) (key : ℕ) (said : Said) (old new : Option Peer) → Comes told registry_of passes alone (after_noting held (for_entry old (writing key said))) w new v → Keeps old new
  brought_keeps held key said old new came = given told registry_of passes alone (λ o. Keeps old o) new v (after_noting held (for_entry old (writing key said))) w (bringing held key said old) came

  pub checks_keep : (old new : List (Option Peer)) → Comes told registry_of passes alone (checking_each [] old) w new v → KeepsAll old new
  checks_keep old new came =
      let rest = given told registry_of passes alone (λ all. KeepsRest [] old all) new v (checking_each [] old) w (checking [] old) came in
      subst (λ xs. KeepsAll old xs) (sym rest.1) rest.2

  pub refused_keeps : (key : ℕ) (m : Message) (kind : ErrorKind) (old new : Option Peer) → Comes told registry_of passes alone (for_entry old (refusing_hello key m kind)) w new v → Keeps old new
  refused_keeps key m kind old new came = given told registry_of passes alone (λ o. Keeps old o) new v (for_entry old (refusing_hello key m kind)) w (refusing_in key m kind old) came

  pub turned_away_has_none : (key : ℕ) (m : Message) (old new : Option Peer) → Comes told registry_of passes alone (for_entry old (dismissal key m)) w new v → Keeps None new
  turned_away_has_none key m old new came = given told registry_of passes alone (λ o. Keeps None o) new v (for_entry old (dismissal key m)) w (turning_away_in key m old) came

-- A connection whose next message is served where it stands gets no slot, whoever else is there.
pub next_keeps : {N G : Type 0} (told : N → History) (registry_of : N → ℕ) (passes : G → GatedCall → G → Type 0) (alone : Bool) (key : ℕ) (old new : Option Peer) (w v : World N G) →
    ((s : Standing) → peer_at s key ≡ old → Comes told registry_of passes alone (serving_next s key old) w (with_peer s key new) v) → Keeps old new
next_keeps told registry_of passes alone key old new w v comes slot has =
    let other : Option Peer = Some (record { stage = Named (record { number = 0; slot = slot; router = 0 }); unread = []; serial = 0; watches = false }) in
    let is : has_slot slot other ≡ true = eq-eqb slot slot refl in
    let s : Standing = record { peers = two key old other; due_leaves = []; login = None } in
    elim (cases_Bool (has_slot slot old)) [
      | inl had ↦ had
      | inr hadnt ↦
          let done = comes s (first_of key old other) in
          let never = given told registry_of passes alone (NotBoth slot key) (with_peer s key new) v (serving_next s key old) w (coming slot key other is old hadnt) done in
          let first : get_or (set s.peers key new) key None ≡ new = ap (λ xs. get_or xs key None) (set_first key old other new) ∙ first_of key new other in
          let second : get_or (set s.peers key new) (suc key) None ≡ other = ap (λ xs. get_or xs (suc key) None) (set_first key old other new) ∙ second_of key new other in
          absurd (never (subst (λ o. has_slot slot o ≡ true) (sym first) has) (subst (λ o. has_slot slot o ≡ true) (sym second) is))
    ]
