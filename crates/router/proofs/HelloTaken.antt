-- A Hello is served once it was taken off the bytes of its connection.
use Rattle.std.proofs.Common.{◌≡◌, ◌≢◌, ℕ, Bool, false, true, Option, Some, None, List, length, position, cond, nat_lt, get_or, set, refl, sym, ap, ◌∙◌, subst, if◌then◌else◌}
use Rattle.std.proofs.lemmas.List.{set-set, set_comm, get_or-set_other, length-set}
use Rattle.std.specs.List.{position_or_len}
use Rattle.std.proofs.lemmas.List.Folds.{position_or_len-set}
use Rattle.std.proofs.lemmas.List.Quantifiers.{position-Some}
use Rattle.seq_bus_core.specs.Histories.{History}
use Rattle.seq_bus_core.specs.declared.connection.Conn.{Conn}
use Rattle.seq_bus_core.specs.declared.outcome.Outcome.{Outcome}
use Rattle.seq_bus_core.specs.declared.outcome.Reply.{Reply}
use Rattle.seq_bus_core.specs.declared.outcome.Reply.TheVariants.{Welcome}
use Rattle.message_core.specs.Messages.{Message}
use Rattle.message_core.specs.Said.{said}
use Rattle.driver.specs.Calls.{is_hello}
use Rattle.outbox_core.specs.Contents.{UniqueName}
use Rattle.router_core.specs.declared.cause.CloseCause.TheVariants as cause
use Rattle.router_core.specs.Answers.{Heard, Says, Refuses, error_for}
use Rattle.router_core.specs.Deeds.{GatedCall, Closes}
use Rattle.router_core.specs.Events.{OfPeer, Stands, closing, for_entry, for_peer, closing_if_found, greeting, dismissal, refusing_hello, after_hello_by, after_hello, serving_hello, serving_at, next_at, serving_next}
use Rattle.router_core.specs.Incoming.{Whole, IsIncoming}
use Rattle.router_core.specs.Scripts.{Gives, Doing, Announcing, World, Comes, and_then}
use Rattle.router_core.specs.Serving.{replying}
use Rattle.router_core.specs.Standing.{Peer, Standing, Stage, Named, Unnamed, peer_at, with_peer, has_slot, closing_peer}
use Rattle.router_steps.specs.Reading.{IsRest}

-- where the one that is replaced and what replaces it are told apart by no test, the same place is found
position_same : {A : Type 0} (test : A → Bool) (xs : List A) (k : ℕ) (y d : A) → test y ≡ test (get_or xs k d) → position test (set xs k y) ≡ position test xs
position_same test xs k y d same =
    ap (λ n. cond (nat_lt n (length (set xs k y))) (Some n) None) (position_or_len-set test xs k y d same)
    ∙ ap (λ n. cond (nat_lt (position_or_len test xs) n) (Some (position_or_len test xs)) None) (length-set xs k y)

-- a connection without a name has no slot
pub no_slot : (slot : ℕ) (o : Option Peer) (p : Peer) (privileged : Bool) → o ≡ Some p → p.stage ≡ Unnamed privileged → has_slot slot o ≡ false
no_slot slot o p privileged there unnamed =
    let q : Peer = record p { stage = Unnamed privileged } in
    let is : p ≡ q = λ i. record p { stage = unnamed i } in
    ap (has_slot slot) (there ∙ ap (λ r. Some r) is)

module _ (s : Standing) (key : ℕ) (left : Option Peer) where
  abbrev taken : Standing
  taken = with_peer s key left

  filled : (q : Option Peer) → with_peer taken key q ≡ with_peer s key q
  filled q = λ i. record s { peers = set-set s.peers key left q i }

  filled_after : (k : ℕ) → k ≢ key → (o q : Option Peer) → with_peer (with_peer taken k o) key q ≡ with_peer (with_peer s k o) key q
  filled_after k other o q =
      let e : set (set (set s.peers key left) k o) key q ≡ set (set s.peers k o) key q =
      set_comm (set s.peers key left) k key o q other ∙ ap (λ xs. set xs k o) (set-set s.peers key left q) ∙ sym (set_comm s.peers k key o q other) in
      λ i. record s { peers = e i }

  there_too : (k : ℕ) → k ≢ key → peer_at taken k ≡ peer_at s k
  there_too k other = get_or-set_other s.peers key k left None other

  for_it : (p : Peer) (work : Peer → OfPeer) → for_peer taken key (Some p) work ≡ for_peer s key (Some p) work
  for_it p work = λ i. and_then (for_entry (Some p) work) (λ q. Gives (filled q i))

  module _ (m : Message) (p : Peer) (o : Outcome) where
    module _ (conn : Conn) where
      -- the name is the one of a connection, whoever else is there
      welcome_same : (t u : Standing) → ((q : Option Peer) → with_peer t key q ≡ with_peer u key q) → greeting key m p o conn t ≡ greeting key m p o conn u
      welcome_same t u same = λ i. and_then (replying m conn (UniqueName conn.number)) (λ done. Announcing o.signals (Gives (same (Some (record p { stage = Named conn })) i)))

      closed_then : (k : ℕ) → k ≢ key → (r : Option Peer) →
          and_then (for_peer taken k r (λ q. closing k cause.Left q)) (λ t. greeting key m p o conn t) ≡ and_then (for_peer s k r (λ q. closing k cause.Left q)) (λ t. greeting key m p o conn t)
      closed_then k other None = welcome_same (with_peer taken k None) (with_peer s k None) (λ q. filled_after k other None q)
      closed_then k other (Some r) =
          ap (λ (rest : Stands). Doing (Closes k cause.Left) rest) (welcome_same (with_peer taken k (Some (closing_peer r))) (with_peer s k (Some (closing_peer r))) (λ q. filled_after k other (Some (closing_peer r)) q))

      found_then : (found : Option ℕ) → ((k : ℕ) → found ≡ Some k → k ≢ key) →
          and_then (closing_if_found taken found) (λ t. greeting key m p o conn t) ≡ and_then (closing_if_found s found) (λ t. greeting key m p o conn t)
      found_then None other = welcome_same taken s filled
      found_then (Some k) other =
          ap (λ r. and_then (for_peer taken k r (λ q. closing k cause.Left q)) (λ t. greeting key m p o conn t)) (there_too k (other k refl)) ∙ closed_then k (other k refl) (peer_at s k)

    module _ (was : Peer) (privileged : Bool) (there : peer_at s key ≡ Some was) (unnamed : was.stage ≡ Unnamed privileged) (slotless : (slot : ℕ) → has_slot slot left ≡ false) where
      without : (slot : ℕ) → has_slot slot (peer_at s key) ≡ false
      without slot = no_slot slot (peer_at s key) was privileged there unnamed

      other_key : (slot k : ℕ) → position (has_slot slot) s.peers ≡ Some k → k ≢ key
      other_key slot k found same =
          let has : has_slot slot (peer_at s k) ≡ true = (position-Some (has_slot slot) s.peers k None found).1 in
          let never : false ≡ true = sym (without slot) ∙ ap (λ n. has_slot slot (peer_at s n)) (sym same) ∙ has in
          cc

      by_reply : (reply : Reply) → after_hello_by taken key m p o reply ≡ after_hello_by s key m p o reply
      by_reply (Welcome conn) =
          ap (λ found. and_then (closing_if_found taken found) (λ t. greeting key m p o conn t)) (position_same (has_slot conn.slot) s.peers key left None (slotless conn.slot ∙ sym (without conn.slot)))
          ∙ found_then conn (position (has_slot conn.slot) s.peers) (λ k found. other_key conn.slot k found)
      by_reply other = for_it p (dismissal key m)

  module _ (m : Message) (p : Peer) (was : Peer) (privileged : Bool) (there : peer_at s key ≡ Some was) (unnamed : was.stage ≡ Unnamed privileged) (slotless : (slot : ℕ) → has_slot slot left ≡ false) where
    after_hello_same : (heard : Heard Outcome) → after_hello taken key m p heard ≡ after_hello s key m p heard
    after_hello_same (Refuses refusal) = for_it p (refusing_hello key m (error_for refusal))
    after_hello_same (Says o) = by_reply m p o was privileged there unnamed slotless o.reply

    -- what comes of the Hello then comes of it
    pub serves_hello : {N G : Type 0} (told : N → History) (registry_of : N → ℕ) (passes : G → GatedCall → G → Type 0) (alone known : Bool) (w : World N G) (t : Standing) (v : World N G) →
        Comes told registry_of passes alone (serving_hello taken key m p known) w t v → Comes told registry_of passes alone (serving_hello s key m p known) w t v
    serves_hello told registry_of passes alone known w t v h =
        (h.0, h.1, (h.2.0, h.2.1, h.2.2, subst (λ script. Comes told registry_of passes alone script h.2.1 t v) (after_hello_same h.2.0) h.2.3))

-- It is served as the next message of its connection.
pub hello_next : {N G : Type 0} (told : N → History) (registry_of : N → ℕ) (passes : G → GatedCall → G → Type 0) (alone : Bool) (s : Standing) (key : ℕ) (p q : Peer) (privileged : Bool) (message : List ℕ) (w : World N G) (t : Standing) (v : World N G) →
    peer_at s key ≡ Some p → p.stage ≡ Unnamed privileged → IsIncoming p.unread (Whole message q.unread) → IsRest p q → is_hello (said message) ≡ true →
    Comes told registry_of passes alone (serving_hello s key (said message) q privileged) w t v → Comes told registry_of passes alone (serving_next s key (peer_at s key)) w t v
hello_next told registry_of passes alone s key p q privileged message w t v there unnamed incoming rest hello done =
    let m = said message in
    let x : Peer = record p { unread = q.unread } in
    let serves_it = subst (λ (r : Peer). Comes told registry_of passes alone (serving_hello s key m r privileged) w t v) rest done in
    let chosen : Comes told registry_of passes alone (serving_at s key m x (Unnamed privileged)) w t v =
    subst (λ (b : Bool). Comes told registry_of passes alone (if b then serving_hello s key m x privileged else for_peer s key (Some x) (closing key cause.NotHello)) w t v) (sym hello) serves_it in
    let served = subst (λ (stage : Stage). Comes told registry_of passes alone (serving_at s key m x stage) w t v) (sym unnamed) chosen in
    let reads : Comes told registry_of passes alone (next_at s key p (Unnamed privileged)) w t v = (Whole message q.unread, incoming, served) in
    subst (λ (o : Option Peer). Comes told registry_of passes alone (serving_next s key o) w t v) (sym there) (subst (λ (stage : Stage). Comes told registry_of passes alone (next_at s key p stage) w t v) (sym unnamed) reads)
