-- More bytes of a connection change nothing of what is done before they are read.
use Rattle.std.proofs.Common.{◌≡◌, ◌⊎◌, ℕ, zero, suc, Bool, true, false, Option, Some, None, cond, not, nat_lt, ◌+◌, List, [], ◌∷◌, ◌++◌, length, get_or, set, inl, inr, if◌then◌else◌, refl, sym, ap, ◌∙◌, subst, append_assoc}
use Rattle.std.specs.Prelude.{IfSome}
use Rattle.std.specs.List.{position, position_or_len}
use Rattle.std.proofs.lemmas.Bool.{cases_eq}
use Rattle.std.proofs.lemmas.List.{length-set, set-get_or}
use mathlib.Core.List.{append-nil}
use Rattle.seq_bus_core.specs.declared.connection.Conn.{Conn}
use Rattle.seq_bus_core.specs.declared.error_kind.ErrorKind.{ErrorKind}
use Rattle.seq_bus_core.specs.declared.error_kind.ErrorKind.TheVariants.{LimitsExceeded}
use Rattle.seq_bus_core.specs.declared.outcome.Outcome.{Outcome}
use Rattle.seq_bus_core.specs.declared.outcome.Reply.{Reply}
use Rattle.seq_bus_core.specs.declared.outcome.Reply.TheVariants as reply
use Rattle.seq_bus_core.specs.declared.change.Change.TheVariants.{Hello}
use Rattle.seq_bus_core.specs.declared.verdict.Verdict.{Verdict}
use Rattle.message_core.specs.declared.fault.FrameFault.{FrameFault}
use Rattle.sasl.specs.Settings.{Setting}
use Rattle.sasl.specs.Conversations.{State as AuthState}
use Rattle.message_core.specs.Messages.{Message}
use Rattle.message_core.specs.Said.{said as message_said}
use Rattle.driver.specs.declared.call.Call.TheVariants as call
use Rattle.driver.specs.Calls.{expects_reply, is_hello}
use Rattle.outbox_core.specs.Contents.{Said, Relays, Tells, Own, Errs, UniqueName, bus_message}
use Rattle.message.specs.FactsOf.{facts_of}
use Rattle.router_core.specs.declared.cause.CloseCause.{CloseCause}
use Rattle.router_core.specs.declared.cause.CloseCause.TheVariants as cause
use Rattle.router_core.specs.declared.fate.PeerFate.{PeerFate}
use Rattle.router_core.specs.declared.fate.PeerFate.TheVariants as fate
use Rattle.router_core.specs.Answers.{Heard, Says, Refuses, error_for}
use Rattle.router_core.specs.Deeds.{Deed, Closes, Sends}
use Rattle.router_core.specs.Events.{Bytes, Mail, Next, OfPeer, Stands, hearing, closing, after_serving, sending, writing, for_entry, for_peer, with_bytes, refusing_routed, refusing_hello, closing_if_found, closing_former, greeting, dismissal, after_hello_by, after_hello, serving_hello, serving_named, serving_at, serving_incoming, next_at, serving_next, mail_delivery}
use Rattle.router_core.specs.Incoming.{Incoming, Waits, Whole, Faulty}
use Rattle.router_core.specs.OneThread.{Rest}
use Rattle.router_core.proofs.Alone.{Readers, Course, alone, effect, rest_of}
use Rattle.router_core.specs.Scripts.{Script, Gives, Changing, ChangingAll, Asking, Routing, AskingPresence, Noting, Framing, Calling, Gating, Wanting, Requiring, Doing, Announcing, and_then, putting}
use Rattle.router_core.specs.Serving.{OfFate, monitors_in, replying, serving}
use Rattle.router_core.specs.Standing.{Stage, Authenticating, Unnamed, Named, Closing, Peer, Standing, SpeaksDBus, peer_at, with_peer, closing_peer, next_serial, has_slot, is_conn}

-- ## Scripts one after the other

pub after_same : {X Y : Type 0} (s : Script X) (f g : X → Script Y) → ((x : X) → f x ≡ g x) → and_then s f ≡ and_then s g
after_same {X = X} {Y = Y} s f g same = ap (λ (h : X → Script Y). and_then s h) (λ i. λ x. same x i)

pub and_then_assoc : {X Y Z : Type 0} (s : Script X) (f : X → Script Y) (g : Y → Script Z) → and_then (and_then s f) g ≡ and_then s (λ x. and_then (f x) g)
and_then_assoc (Gives x) f g = refl
and_then_assoc (Changing change goes_on) f g = λ i. Changing change (λ heard. and_then_assoc (goes_on heard) f g i)
and_then_assoc (ChangingAll changes goes_on) f g = λ i. ChangingAll changes (λ heard. and_then_assoc (goes_on heard) f g i)
and_then_assoc (Asking query goes_on) f g = λ i. Asking query (λ heard. and_then_assoc (goes_on heard) f g i)
and_then_assoc (Routing from facts goes_on) f g = λ i. Routing from facts (λ heard. and_then_assoc (goes_on heard) f g i)
and_then_assoc (AskingPresence number goes_on) f g = λ i. AskingPresence number (λ heard. and_then_assoc (goes_on heard) f g i)
and_then_assoc (Noting told s) f g = λ i. Noting told (and_then_assoc s f g i)
and_then_assoc (Framing bytes goes_on) f g = λ i. Framing bytes (λ incoming. and_then_assoc (goes_on incoming) f g i)
and_then_assoc (Calling m goes_on) f g = λ i. Calling m (λ reading. and_then_assoc (goes_on reading) f g i)
and_then_assoc (Gating call s) f g = λ i. Gating call (and_then_assoc s f g i)
and_then_assoc (Wanting goes_on) f g = λ i. Wanting (λ granted. and_then_assoc (goes_on granted) f g i)
and_then_assoc (Requiring holds s) f g = λ i. Requiring holds (and_then_assoc s f g i)
and_then_assoc (Doing deed s) f g = λ i. Doing deed (and_then_assoc s f g i)
and_then_assoc (Announcing signals s) f g = λ i. Announcing signals (and_then_assoc s f g i)

-- what a script comes to is looked at in another way
abbrev pub seen_as : {X Y : Type 0} → (X → Y) → Script X → Script Y
seen_as f s = and_then s (λ x. Gives (f x))

module _ (readers : Readers) {X Y : Type 0} (f : X → Y) where
  pub alone_seen : (s : Script X) (c : Course) → alone readers (seen_as f s) c ≡ (f (alone readers s c).0, (alone readers s c).1)
  alone_seen (Gives x) c = refl
  alone_seen (Changing change goes_on) c = alone_seen (goes_on _) _
  alone_seen (ChangingAll changes goes_on) c = alone_seen (goes_on _) _
  alone_seen (Asking query goes_on) c = alone_seen (goes_on _) c
  alone_seen (Routing from facts goes_on) c = alone_seen (goes_on _) c
  alone_seen (AskingPresence number goes_on) c = alone_seen (goes_on _) c
  alone_seen (Noting told s) c = alone_seen s c
  alone_seen (Framing bytes goes_on) c = alone_seen (goes_on (readers.incoming bytes)) c
  alone_seen (Calling m goes_on) c = alone_seen (goes_on (readers.call m)) c
  alone_seen (Gating call s) c = alone_seen s c
  alone_seen (Wanting goes_on) c = alone_seen (goes_on true) c
  alone_seen (Requiring holds s) c = alone_seen s c
  alone_seen (Doing deed s) c = alone_seen s _
  alone_seen (Announcing signals s) c = alone_seen s _

-- ## A list with one element changed

module _ {A : Type 0} (d : A) (f : A → A) (of_default : f d ≡ d) where
  abbrev pub changed : List A → ℕ → List A
  changed xs k = set xs k (f (get_or xs k d))

  set_changed : (xs : List A) (k : ℕ) (y : A) → changed (set xs k y) k ≡ set xs k (f y)
  set_changed [] k y = refl
  set_changed (x ∷ xs) zero y = refl
  set_changed (x ∷ xs) (suc k) y = ap (λ (l : List A). x ∷ l) (set_changed xs k y)

  changed_set : (xs : List A) (k : ℕ) (y : A) → set (changed xs k) k y ≡ set xs k y
  changed_set [] k y = refl
  changed_set (x ∷ xs) zero y = refl
  changed_set (x ∷ xs) (suc k) y = ap (λ (l : List A). x ∷ l) (changed_set xs k y)

  pub set_apart : (xs : List A) (k j : ℕ) (y : A) → (j ≡ k → ⊥) → set (changed xs k) j y ≡ changed (set xs j y) k
  set_apart [] k j y apart = refl
  set_apart (x ∷ xs) zero zero y apart = absurd (apart refl)
  set_apart (x ∷ xs) zero (suc j) y apart = refl
  set_apart (x ∷ xs) (suc k) zero y apart = refl
  set_apart (x ∷ xs) (suc k) (suc j) y apart = ap (λ (l : List A). x ∷ l) (set_apart xs k j y (λ e. apart (ap suc e)))

  get_changed : (xs : List A) (k : ℕ) → get_or (changed xs k) k d ≡ f (get_or xs k d)
  get_changed [] k = sym of_default
  get_changed (x ∷ xs) zero = refl
  get_changed (x ∷ xs) (suc k) = get_changed xs k

  get_apart : (xs : List A) (k j : ℕ) → (j ≡ k → ⊥) → get_or (changed xs k) j d ≡ get_or xs j d
  get_apart [] k j apart = refl
  get_apart (x ∷ xs) zero zero apart = absurd (apart refl)
  get_apart (x ∷ xs) zero (suc j) apart = refl
  get_apart (x ∷ xs) (suc k) zero apart = refl
  get_apart (x ∷ xs) (suc k) (suc j) apart = get_apart xs k j (λ e. apart (ap suc e))

  place_changed : (test : A → Bool) → ((a : A) → test (f a) ≡ test a) → (xs : List A) (k : ℕ) → position_or_len test (changed xs k) ≡ position_or_len test xs
  place_changed test same [] k = refl
  place_changed test same (x ∷ xs) zero = ap (λ (b : Bool). cond (not b) (1 + position_or_len test xs) 0) (same x)
  place_changed test same (x ∷ xs) (suc k) = ap (λ (n : ℕ). cond (not (test x)) (1 + n) 0) (place_changed test same xs k)

  position_changed : (test : A → Bool) → ((a : A) → test (f a) ≡ test a) → (xs : List A) (k : ℕ) → position test (changed xs k) ≡ position test xs
  position_changed test same xs k =
      ap (λ (n : ℕ). cond (nat_lt n (length (changed xs k))) (Some n) None) (place_changed test same xs k)
      ∙ ap (λ (n : ℕ). cond (nat_lt (position_or_len test xs) n) (Some (position_or_len test xs)) None) (length-set xs k (f (get_or xs k d)))

-- ## More bytes of the connection of a key

module _ (piece : List ℕ) (key : ℕ) where
  abbrev pub more : Peer → Peer
  more p = with_bytes piece p p.stage

  abbrev pub more_if : Option Peer → Option Peer
  more_if None = None
  more_if (Some p) = Some (more p)

  abbrev pub with_more : Standing → Standing
  with_more s = with_peer s key (more_if (peer_at s key))

  abbrev as_standing : Standing → List (Option Peer) → Standing
  as_standing s peers = record s { peers = peers }

  pub more_of_set : (s : Standing) (o : Option Peer) → with_more (with_peer s key o) ≡ with_peer s key (more_if o)
  more_of_set s o = ap (as_standing s) (set_changed None more_if refl s.peers key o)

  pub set_of_more : (s : Standing) (o : Option Peer) → with_peer (with_more s) key o ≡ with_peer s key o
  set_of_more s o = ap (as_standing s) (changed_set None more_if refl s.peers key o)

  pub more_apart : (s : Standing) (k : ℕ) (o : Option Peer) → (k ≡ key → ⊥) → with_peer (with_more s) k o ≡ with_more (with_peer s k o)
  more_apart s k o apart = ap (as_standing s) (set_apart None more_if refl s.peers key k o apart)

  pub peer_with_more : (s : Standing) → peer_at (with_more s) key ≡ more_if (peer_at s key)
  peer_with_more s = get_changed None more_if refl s.peers key

  pub peer_apart : (s : Standing) (k : ℕ) → (k ≡ key → ⊥) → peer_at (with_more s) k ≡ peer_at s k
  peer_apart s k apart = get_apart None more_if refl s.peers key k apart

  slot_same : (slot : ℕ) (o : Option Peer) → has_slot slot (more_if o) ≡ has_slot slot o
  slot_same slot None = refl
  slot_same slot (Some p) = by_stage p.stage
    where
      by_stage : (stage : Stage) → has_slot slot (Some (with_bytes piece p stage)) ≡ has_slot slot (Some p)
      by_stage (Authenticating setting state) = refl
      by_stage (Unnamed privileged) = refl
      by_stage (Named conn) = refl
      by_stage (Closing conn) = refl

  conn_same : (slot number : ℕ) (o : Option Peer) → is_conn slot number (more_if o) ≡ is_conn slot number o
  conn_same slot number None = refl
  conn_same slot number (Some p) = by_stage p.stage
    where
      by_stage : (stage : Stage) → is_conn slot number (Some (with_bytes piece p stage)) ≡ is_conn slot number (Some p)
      by_stage (Authenticating setting state) = refl
      by_stage (Unnamed privileged) = refl
      by_stage (Named conn) = refl
      by_stage (Closing conn) = refl

  pub stage_same : (p : Peer) (stage : Stage) → (with_bytes piece p stage).stage ≡ p.stage
  stage_same p (Authenticating setting state) = refl
  stage_same p (Unnamed privileged) = refl
  stage_same p (Named conn) = refl
  stage_same p (Closing conn) = refl

  serial_same : (p : Peer) (stage : Stage) → (with_bytes piece p stage).serial ≡ p.serial
  serial_same p (Authenticating setting state) = refl
  serial_same p (Unnamed privileged) = refl
  serial_same p (Named conn) = refl
  serial_same p (Closing conn) = refl

  -- a connection that is closed lets go of all
  closing_same : (p : Peer) (stage : Stage) → closing_peer (with_bytes piece p stage) ≡ closing_peer p
  closing_same p (Authenticating setting state) = refl
  closing_same p (Unnamed privileged) = refl
  closing_same p (Named conn) = refl
  closing_same p (Closing conn) = refl

  -- ## What is done for one connection

  abbrev pub Natural : (Peer → OfPeer) → Type 0
  Natural w = (p : Peer) → w (more p) ≡ seen_as more (w p)

  pub closing_natural : (k : ℕ) (why : CloseCause) → Natural (closing k why)
  closing_natural k why p = ap (λ (q : Peer). Doing (Closes k why) (Gives q)) (closing_same p p.stage)

  abbrev watching : Peer → Peer
  watching p = record p { watches = true }

  watching_more : (p : Peer) (stage : Stage) → watching (with_bytes piece p stage) ≡ with_bytes piece (watching p) stage
  watching_more p (Authenticating setting state) = refl
  watching_more p (Unnamed privileged) = refl
  watching_more p (Named conn) = refl
  watching_more p (Closing conn) = refl

  fated_natural : (k : ℕ) (fate : PeerFate) → Natural (after_serving k fate)
  fated_natural k fate.Stays p = refl
  fated_natural k fate.Watches p = ap (λ (q : Peer). let done : OfPeer = Gives q in done) (watching_more p p.stage)
  fated_natural k (fate.Closes why) p = closing_natural k why p

  abbrev numbered : Peer → ℕ → Peer
  numbered p n = record p { serial = n }

  numbered_more : (p : Peer) (n : ℕ) (stage : Stage) → numbered (with_bytes piece p stage) n ≡ with_bytes piece (numbered p n) stage
  numbered_more p n (Authenticating setting state) = refl
  numbered_more p n (Unnamed privileged) = refl
  numbered_more p n (Named conn) = refl
  numbered_more p n (Closing conn) = refl

  abbrev sent : ℕ → Own → Peer → ℕ → OfPeer
  sent k own p serial = Doing (Sends k (bus_message serial own)) (Gives (numbered p serial))

  send_natural : (k : ℕ) (own : Own) → Natural (sending k own)
  send_natural k own p =
      ap (λ (n : ℕ). sent k own (more p) (next_serial n)) (serial_same p p.stage)
      ∙ ap (λ (q : Peer). Doing (Sends k (bus_message (next_serial p.serial) own)) (Gives q)) (numbered_more p (next_serial p.serial) p.stage)

  write_natural : (k : ℕ) (said : Said) → Natural (writing k said)
  write_natural k (Relays bytes) p = refl
  write_natural k (Tells own) p = send_natural k own p

  then_natural : (w v : Peer → OfPeer) → Natural w → Natural v → Natural (λ p. and_then (w p) v)
  then_natural w v first second p =
      ap (λ (s : OfPeer). and_then s v) (first p)
      ∙ and_then_assoc (w p) (λ q. Gives (more q)) v
      ∙ after_same (w p) (λ q. v (more q)) (λ q. seen_as more (v q)) second
      ∙ sym (and_then_assoc (w p) v (λ q. Gives (more q)))

  putting_natural : (to : List Conn) (said : Said) → Natural (λ p. putting to said (Gives p))
  putting_natural [] said p = refl
  putting_natural (conn ∷ conns) said p = refl

  refuse_natural : (k : ℕ) (own : Own) (heard : Heard Verdict) → Natural (λ p. refusing_routed k own p heard)
  refuse_natural k own heard = then_natural (sending k own) (λ q. putting (monitors_in heard) (Tells own) (Gives q)) (send_natural k own) (putting_natural (monitors_in heard) (Tells own))

  abbrev error_to : Message → ErrorKind → Own
  error_to m error = Errs (record { caller = None; call = m.serial }) error

  refuse_with_natural : (k : ℕ) (m : Message) (error : ErrorKind) → Natural (refusing_hello k m error)
  refuse_with_natural k m error p = by_test (expects_reply m)
    where
      asked : Peer → OfPeer
      asked q = Routing 0 (facts_of (bus_message 1 (error_to m error))) (λ heard. refusing_routed k (error_to m error) q heard)

      by_test : (b : Bool) → (if b then asked (more p) else Gives (more p)) ≡ seen_as more (if b then asked p else Gives p)
      by_test true = λ i. Routing 0 (facts_of (bus_message 1 (error_to m error))) (λ heard. refuse_natural k (error_to m error) heard p i)
      by_test false = refl

  turn_away_natural : (k : ℕ) (m : Message) → Natural (dismissal k m)
  turn_away_natural k m = then_natural (refusing_hello k m LimitsExceeded) (closing k cause.LimitsExceeded) (refuse_with_natural k m LimitsExceeded) (closing_natural k cause.LimitsExceeded)

  pub work_natural : (k : ℕ) (work : OfFate) → Natural (λ p. and_then work (λ fate. after_serving k fate p))
  work_natural k work p =
      after_same work (λ fate. after_serving k fate (more p)) (λ fate. seen_as more (after_serving k fate p)) (λ fate. fated_natural k fate p)
      ∙ sym (and_then_assoc work (λ fate. after_serving k fate p) (λ q. Gives (more q)))

  -- ## What is done for the connection of a key among all

  pub here : (s : Standing) (w : Peer → OfPeer) → Natural w → (o : Option Peer) → for_peer (with_more s) key (more_if o) w ≡ seen_as with_more (for_peer s key o w)
  here s w natural None = ap (λ (t : Standing). Gives t) (set_of_more s None ∙ sym (more_of_set s None))
  here s w natural (Some p) =
      and_then_assoc (w (more p)) (λ q. Gives (Some q)) (λ q. Gives (with_peer (with_more s) key q))
      ∙ ap (λ (x : OfPeer). and_then x (λ q. Gives (with_peer (with_more s) key (Some q)))) (natural p)
      ∙ and_then_assoc (w p) (λ q. Gives (more q)) (λ q. Gives (with_peer (with_more s) key (Some q)))
      ∙ after_same (w p) (λ q. Gives (with_peer (with_more s) key (Some (more q)))) (λ q. Gives (with_more (with_peer s key (Some q))))
      (λ q. ap (λ (t : Standing). Gives t) (set_of_more s (Some (more q)) ∙ sym (more_of_set s (Some q))))
      ∙ sym (and_then_assoc (w p) (λ q. Gives (with_peer s key (Some q))) (λ t. Gives (with_more t)))
      ∙ ap (λ (x : Stands). seen_as with_more x) (sym (and_then_assoc (w p) (λ q. Gives (Some q)) (λ q. Gives (with_peer s key q))))

  pub there : (s : Standing) (k : ℕ) → (k ≡ key → ⊥) → (w : Peer → OfPeer) (o : Option Peer) → for_peer (with_more s) k o w ≡ seen_as with_more (for_peer s k o w)
  there s k apart w o =
      after_same (for_entry o w) (λ q. Gives (with_peer (with_more s) k q)) (λ q. Gives (with_more (with_peer s k q))) (λ q. ap (λ (t : Standing). Gives t) (more_apart s k q apart))
      ∙ sym (and_then_assoc (for_entry o w) (λ q. Gives (with_peer s k q)) (λ t. Gives (with_more t)))

  at_key : (s : Standing) (k : ℕ) (w : Peer → OfPeer) → Natural w → (k ≡ key) ⊎ (k ≡ key → ⊥) → for_peer (with_more s) k (peer_at (with_more s) k) w ≡ seen_as with_more (for_peer s k (peer_at s k) w)
  at_key s k w natural (inl same) =
      subst (λ (n : ℕ). for_peer (with_more s) n (peer_at (with_more s) n) w ≡ seen_as with_more (for_peer s n (peer_at s n) w)) (sym same)
      (ap (λ (o : Option Peer). for_peer (with_more s) key o w) (peer_with_more s) ∙ here s w natural (peer_at s key))
  at_key s k w natural (inr apart) = ap (λ (o : Option Peer). for_peer (with_more s) k o w) (peer_apart s k apart) ∙ there s k apart w (peer_at s k)

  -- ## Mail

  mail_at : (s : Standing) (said : Said) (found : Option ℕ) → mail_delivery (with_more s) said found ≡ seen_as with_more (mail_delivery s said found)
  mail_at s said None = refl
  mail_at s said (Some k) = at_key s k (writing k said) (write_natural k said) (cases_eq k key)

  pub mail_more : (s : Standing) (slot number : ℕ) (said : Said) →
      mail_delivery (with_more s) said (position (is_conn slot number) (with_more s).peers) ≡ seen_as with_more (mail_delivery s said (position (is_conn slot number) s.peers))
  mail_more s slot number said =
      ap (λ (found : Option ℕ). mail_delivery (with_more s) said found) (position_changed None more_if refl (is_conn slot number) (conn_same slot number) s.peers key)
      ∙ mail_at s said (position (is_conn slot number) s.peers)

  -- ## Hello

  close_found_more : (s : Standing) (found : Option ℕ) → closing_if_found (with_more s) found ≡ seen_as with_more (closing_if_found s found)
  close_found_more s None = refl
  close_found_more s (Some k) = at_key s k (λ p. closing k cause.Left p) (closing_natural k cause.Left) (cases_eq k key)

  pub close_former_more : (s : Standing) (conn : Conn) → closing_former (with_more s) conn ≡ seen_as with_more (closing_former s conn)
  close_former_more s conn =
      ap (λ (found : Option ℕ). closing_if_found (with_more s) found) (position_changed None more_if refl (has_slot conn.slot) (slot_same conn.slot) s.peers key)
      ∙ close_found_more s (position (has_slot conn.slot) s.peers)

  module _ (m : Message) (p : Peer) (privileged : Bool) (unnamed : p.stage ≡ Unnamed privileged) where
    abbrev named : Peer → Conn → Peer
    named q conn = record q { stage = Named conn }

    named_more : (conn : Conn) → named (more p) conn ≡ more (named p conn)
    named_more conn = ap (λ (stage : Stage). named (with_bytes piece p stage) conn) unnamed

    welcome_more : (o : Outcome) (conn : Conn) (t : Standing) → greeting key m (more p) o conn (with_more t) ≡ seen_as with_more (greeting key m p o conn t)
    welcome_more o conn t =
        ap (λ (u : Standing). and_then (replying m conn (UniqueName conn.number)) (λ done. Announcing o.signals (Gives u)))
        (set_of_more t (Some (named (more p) conn)) ∙ ap (λ (q : Peer). with_peer t key (Some q)) (named_more conn) ∙ sym (more_of_set t (Some (named p conn))))
        ∙ sym (and_then_assoc (replying m conn (UniqueName conn.number)) (λ done. Announcing o.signals (Gives (with_peer t key (Some (named p conn))))) (λ u. Gives (with_more u)))

    welcomed_more : (s : Standing) (o : Outcome) (conn : Conn) →
        and_then (closing_former (with_more s) conn) (λ t. greeting key m (more p) o conn t) ≡ seen_as with_more (and_then (closing_former s conn) (λ t. greeting key m p o conn t))
    welcomed_more s o conn =
        ap (λ (x : Stands). and_then x (λ t. greeting key m (more p) o conn t)) (close_former_more s conn)
        ∙ and_then_assoc (closing_former s conn) (λ t. Gives (with_more t)) (λ t. greeting key m (more p) o conn t)
        ∙ after_same (closing_former s conn) (λ t. greeting key m (more p) o conn (with_more t)) (λ t. seen_as with_more (greeting key m p o conn t)) (welcome_more o conn)
        ∙ sym (and_then_assoc (closing_former s conn) (λ t. greeting key m p o conn t) (λ u. Gives (with_more u)))

    turned_away_more : (s : Standing) → for_peer (with_more s) key (Some (more p)) (dismissal key m) ≡ seen_as with_more (for_peer s key (Some p) (dismissal key m))
    turned_away_more s = here s (dismissal key m) (turn_away_natural key m) (Some p)

    after_hello_by_more : (s : Standing) (o : Outcome) (r : Reply) → after_hello_by (with_more s) key m (more p) o r ≡ seen_as with_more (after_hello_by s key m p o r)
    after_hello_by_more s o (reply.Welcome conn) = welcomed_more s o conn
    after_hello_by_more s o reply.Gone = turned_away_more s
    after_hello_by_more s o reply.LimitsExceeded = turned_away_more s
    after_hello_by_more s o reply.Done = turned_away_more s
    after_hello_by_more s o (reply.OfQueue r) = turned_away_more s
    after_hello_by_more s o reply.InvalidName = turned_away_more s
    after_hello_by_more s o reply.RuleNotFound = turned_away_more s
    after_hello_by_more s o reply.AccessDenied = turned_away_more s
    after_hello_by_more s o reply.AlreadyRunning = turned_away_more s
    after_hello_by_more s o (reply.Held ticket) = turned_away_more s
    after_hello_by_more s o reply.ServiceUnknown = turned_away_more s
    after_hello_by_more s o (reply.Pass conn) = turned_away_more s
    after_hello_by_more s o reply.Ignored = turned_away_more s

    after_hello_more : (s : Standing) (heard : Heard Outcome) → after_hello (with_more s) key m (more p) heard ≡ seen_as with_more (after_hello s key m p heard)
    after_hello_more s (Refuses refusal) = here s (refusing_hello key m (error_for refusal)) (refuse_with_natural key m (error_for refusal)) (Some p)
    after_hello_more s (Says o) = after_hello_by_more s o o.reply

    serving_hello_more : (s : Standing) → serving_hello (with_more s) key m (more p) privileged ≡ seen_as with_more (serving_hello s key m p privileged)
    serving_hello_more s = λ i. Gating call.Hello (Changing (Hello privileged) (λ heard. after_hello_more s heard i))

    hello_more : (s : Standing) (b : Bool) →
        (if b then serving_hello (with_more s) key m (more p) privileged else for_peer (with_more s) key (Some (more p)) (closing key cause.NotHello))
        ≡ seen_as with_more (if b then serving_hello s key m p privileged else for_peer s key (Some p) (closing key cause.NotHello))
    hello_more s true = serving_hello_more s
    hello_more s false = here s (closing key cause.NotHello) (closing_natural key cause.NotHello) (Some p)

  -- ## The next message

  pub watches_same : (p : Peer) (stage : Stage) → (with_bytes piece p stage).watches ≡ p.watches
  watches_same p (Authenticating setting state) = refl
  watches_same p (Unnamed privileged) = refl
  watches_same p (Named conn) = refl
  watches_same p (Closing conn) = refl

  named_serve : (s : Standing) (m : Message) (p : Peer) (conn : Conn) (watches : Bool) → serving_named (with_more s) key m (more p) conn watches ≡ seen_as with_more (serving_named s key m p conn watches)
  named_serve s m p conn true = here s (closing key cause.MonitorSent) (closing_natural key cause.MonitorSent) (Some p)
  named_serve s m p conn false = here s (λ q. and_then (serving m conn) (λ fate. after_serving key fate q)) (work_natural key (serving m conn)) (Some p)

  pub serve_more : (s : Standing) (m : Message) (p : Peer) (stage : Stage) → p.stage ≡ stage → serving_at (with_more s) key m (more p) stage ≡ seen_as with_more (serving_at s key m p stage)
  serve_more s m p (Authenticating setting state) is = refl
  serve_more s m p (Unnamed privileged) is = hello_more m p privileged is s (is_hello m)
  serve_more s m p (Named conn) is = ap (serving_named (with_more s) key m (more p) conn) (watches_same p p.stage) ∙ named_serve s m p conn p.watches
  serve_more s m p (Closing conn) is = refl

-- ## Over a bus of one thread

-- what a script comes to
abbrev pub come_to : Readers → Rest → Stands → List Deed × Rest
come_to readers r s = let end = alone readers s (record { view = r.view; deeds = [] }) in (end.1.deeds, rest_of end)

abbrev pub standing_so : Rest → Standing → Rest
standing_so r s = record { standing = s; view = r.view }

module _ (piece : List ℕ) (key : ℕ) where
  abbrev pub rest_more : Rest → Rest
  rest_more r = standing_so r (with_more piece key r.standing)

  -- what more bytes change of an end
  abbrev pub end_more : List Deed × Rest → List Deed × Rest
  end_more end = (end.0, rest_more end.1)

module _ (readers : Readers) (piece : List ℕ) (key : ℕ) where
  come_to_more : (r : Rest) (s : Stands) → come_to readers r (seen_as (with_more piece key) s) ≡ end_more piece key (come_to readers r s)
  come_to_more r s = ap (λ (end : Standing × Course). let at : List Deed × Rest = (end.1.deeds, rest_of end) in at) (alone_seen readers (with_more piece key) s (record { view = r.view; deeds = [] }))

  -- bytes of a connection that has begun its messages
  pub bytes_given : (r : Rest) → IfSome (peer_at r.standing key) (λ p. SpeaksDBus p.stage) → effect readers r (Bytes key piece) ≡ ([], rest_more piece key r)
  bytes_given r begun = by_peer (peer_at r.standing key) begun
    where
      heard : Peer → Stage → Stands
      heard p stage = and_then (and_then (hearing key piece p stage) (λ q. Gives (Some q))) (λ q. Gives (with_peer r.standing key q))

      by_stage : (p : Peer) (stage : Stage) → SpeaksDBus stage → come_to readers r (heard p stage) ≡ ([], standing_so r (with_peer r.standing key (Some (with_bytes piece p stage))))
      by_stage p (Authenticating setting state) begun = absurd begun
      by_stage p (Unnamed privileged) begun = refl
      by_stage p (Named conn) begun = refl
      by_stage p (Closing conn) begun = refl

      by_peer : (o : Option Peer) → IfSome o (λ p. SpeaksDBus p.stage) →
          come_to readers r (for_peer r.standing key o (λ p. hearing key piece p p.stage)) ≡ ([], standing_so r (with_peer r.standing key (more_if piece key o)))
      by_peer None begun = refl
      by_peer (Some p) begun = by_stage p p.stage begun

  pub mail_given : (r : Rest) (slot number : ℕ) (said : Said) → effect readers (rest_more piece key r) (Mail slot number None said) ≡ end_more piece key (effect readers r (Mail slot number None said))
  mail_given r slot number said =
      ap (λ (s : Stands). come_to readers r s) (mail_more piece key r.standing slot number said)
      ∙ come_to_more r (mail_delivery r.standing said (position (is_conn slot number) r.standing.peers))

  module _ (s : Standing) (p : Peer) (message rest : List ℕ) where
    abbrev left_with : Peer → List ℕ → Peer
    left_with q bytes = record q { unread = bytes }

    -- a stage at which bytes are taken
    turn : (stage : Stage) → p.stage ≡ stage → with_bytes piece p stage ≡ left_with p (p.unread ++ piece) → with_bytes piece (left_with p rest) stage ≡ left_with p (rest ++ piece) →
        readers.incoming p.unread ≡ Whole message rest → readers.incoming (p.unread ++ piece) ≡ Whole message (rest ++ piece) → (c : Course) →
        alone readers (serving_incoming (with_more piece key s) key (more piece key p) (readers.incoming (more piece key p).unread)) c ≡ alone readers (seen_as (with_more piece key) (serving_incoming s key p (readers.incoming p.unread))) c
    turn stage is grows left incoming later c =
        let s2 : Standing = with_more piece key s in
        let grown : more piece key p ≡ left_with p (p.unread ++ piece) = ap (λ (st : Stage). with_bytes piece p st) is ∙ grows in
        ap (λ (q : Peer). alone readers (serving_incoming s2 key q (readers.incoming q.unread)) c) grown
        ∙ ap (λ (f : Incoming). alone readers (serving_incoming s2 key (left_with p (p.unread ++ piece)) f) c) later
        ∙ ap (λ (q : Peer). alone readers (serving_at s2 key (message_said message) q p.stage) c) (sym (ap (λ (st : Stage). with_bytes piece (left_with p rest) st) is ∙ left))
        ∙ ap (λ (x : Stands). alone readers x c) (serve_more piece key s (message_said message) (left_with p rest) p.stage refl)
        ∙ ap (λ (f : Incoming). alone readers (seen_as (with_more piece key) (serving_incoming s key p f)) c) (sym incoming)

    turn_at : (stage : Stage) → p.stage ≡ stage → readers.incoming p.unread ≡ Whole message rest → readers.incoming (p.unread ++ piece) ≡ Whole message (rest ++ piece) → (c : Course) →
        alone readers (next_at (with_more piece key s) key (more piece key p) stage) c ≡ alone readers (seen_as (with_more piece key) (next_at s key p stage)) c
    turn_at (Authenticating setting state) is incoming later c = refl
    turn_at (Unnamed privileged) is incoming later c = turn (Unnamed privileged) is refl refl incoming later c
    turn_at (Named conn) is incoming later c = turn (Named conn) is refl refl incoming later c
    turn_at (Closing conn) is incoming later c = refl

  -- a whole message is served, whatever comes behind it
  pub next_given : (r : Rest) (p : Peer) (message rest : List ℕ) → peer_at r.standing key ≡ Some p → readers.incoming p.unread ≡ Whole message rest → readers.incoming (p.unread ++ piece) ≡ Whole message (rest ++ piece) →
      effect readers (rest_more piece key r) (Next key) ≡ end_more piece key (effect readers r (Next key))
  next_given r p message rest here incoming later =
      let s : Standing = r.standing in
      let s2 : Standing = with_more piece key s in
      let c : Course = record { view = r.view; deeds = [] } in
      let now : peer_at s2 key ≡ Some (more piece key p) = peer_with_more piece key s ∙ ap (λ (o : Option Peer). more_if piece key o) here in
      ap (λ (o : Option Peer). come_to readers r (serving_next s2 key o)) now
      ∙ ap (λ (st : Stage). come_to readers r (next_at s2 key (more piece key p) st)) (stage_same piece key p p.stage)
      ∙ ap (λ (end : Standing × Course). let at : List Deed × Rest = (end.1.deeds, rest_of end) in at) (turn_at s p message rest p.stage refl incoming later c)
      ∙ come_to_more r (next_at s key p p.stage)
      ∙ ap (λ (o : Option Peer). end_more piece key (come_to readers r (serving_next s key o))) (sym here)

-- ## When nothing is to be served, or no message comes

-- it has begun its messages, and was not closed
abbrev pub TakesBytes : Stage → Type 0
TakesBytes (Authenticating setting state) = ⊥
TakesBytes (Unnamed privileged) = Unit {0}
TakesBytes (Named conn) = Unit {0}
TakesBytes (Closing conn) = ⊥

module _ (key : ℕ) where
  abbrev pub closed_so : Rest → Peer → Rest
  closed_so r p = standing_so r (with_peer r.standing key (Some (closing_peer p)))

  pub closed_more : (piece : List ℕ) (r : Rest) (p : Peer) → closed_so (rest_more piece key r) (more piece key p) ≡ rest_more piece key (closed_so r p)
  closed_more piece r p =
      ap (λ (s : Standing). standing_so r s)
      (set_of_more piece key r.standing (Some (closing_peer (more piece key p))) ∙ ap (λ (q : Peer). with_peer r.standing key (Some q)) (closing_same piece key p p.stage) ∙ sym (more_of_set piece key r.standing (Some (closing_peer p))))

module _ (readers : Readers) (key : ℕ) where
  abbrev next_so : Rest → Option Peer → List Deed × Rest
  next_so r o = come_to readers r (serving_next r.standing key o)

  pub none_given : (r : Rest) → peer_at r.standing key ≡ None → effect readers r (Next key) ≡ ([], r)
  none_given r here = ap (next_so r) here

  pub closing_given : (r : Rest) (p : Peer) (conn : Option Conn) → peer_at r.standing key ≡ Some p → p.stage ≡ Closing conn → effect readers r (Next key) ≡ ([], r)
  closing_given r p conn here is = ap (next_so r) here ∙ ap (λ (stage : Stage). come_to readers r (next_at r.standing key p stage)) is

  pub authenticating_given : (r : Rest) (p : Peer) (setting : Setting) (state : AuthState) → peer_at r.standing key ≡ Some p → p.stage ≡ Authenticating setting state → effect readers r (Next key) ≡ ([], r)
  authenticating_given r p setting state here is = ap (next_so r) here ∙ ap (λ (stage : Stage). come_to readers r (next_at r.standing key p stage)) is

  pub waiting_given : (r : Rest) (p : Peer) → peer_at r.standing key ≡ Some p → readers.incoming p.unread ≡ Waits → effect readers r (Next key) ≡ ([], r)
  waiting_given r p here incoming = ap (next_so r) here ∙ by_stage p.stage
    where
      by_stage : (stage : Stage) → come_to readers r (next_at r.standing key p stage) ≡ ([], r)
      by_stage (Authenticating setting state) = refl
      by_stage (Unnamed privileged) = ap (λ (f : Incoming). come_to readers r (serving_incoming r.standing key p f)) incoming
      by_stage (Named conn) = ap (λ (f : Incoming). come_to readers r (serving_incoming r.standing key p f)) incoming
      by_stage (Closing conn) = refl

  pub faulty_given : (r : Rest) (p : Peer) (fault : FrameFault) → peer_at r.standing key ≡ Some p → TakesBytes p.stage → readers.incoming p.unread ≡ Faulty fault →
      effect readers r (Next key) ≡ (Closes key (cause.Faulty fault) ∷ [], closed_so key r p)
  faulty_given r p fault here takes incoming = ap (next_so r) here ∙ by_stage p.stage takes
    where
      by_stage : (stage : Stage) → TakesBytes stage → come_to readers r (next_at r.standing key p stage) ≡ (Closes key (cause.Faulty fault) ∷ [], closed_so key r p)
      by_stage (Authenticating setting state) takes = absurd takes
      by_stage (Unnamed privileged) takes = ap (λ (f : Incoming). come_to readers r (serving_incoming r.standing key p f)) incoming
      by_stage (Named conn) takes = ap (λ (f : Incoming). come_to readers r (serving_incoming r.standing key p f)) incoming
      by_stage (Closing conn) takes = absurd takes

-- ## Pieces

module _ (key : ℕ) where
  fed_joined : (first second : List ℕ) (p : Peer) (stage : Stage) → with_bytes second (with_bytes first p stage) stage ≡ with_bytes (first ++ second) p stage
  fed_joined first second p (Authenticating setting state) = ap (λ (bytes : List ℕ). let q : Peer = record p { unread = bytes } in q) (append_assoc p.unread first second)
  fed_joined first second p (Unnamed privileged) = ap (λ (bytes : List ℕ). let q : Peer = record p { unread = bytes } in q) (append_assoc p.unread first second)
  fed_joined first second p (Named conn) = ap (λ (bytes : List ℕ). let q : Peer = record p { unread = bytes } in q) (append_assoc p.unread first second)
  fed_joined first second p (Closing conn) = refl

  more_joined : (first second : List ℕ) (o : Option Peer) → more_if second key (more_if first key o) ≡ more_if (first ++ second) key o
  more_joined first second None = refl
  more_joined first second (Some p) =
      ap (λ (q : Peer). Some q)
      (ap (λ (stage : Stage). with_bytes second (with_bytes first p p.stage) stage) (stage_same first key p p.stage) ∙ fed_joined first second p p.stage)

  pub pieces_joined : (first second : List ℕ) (r : Rest) → rest_more second key (rest_more first key r) ≡ rest_more (first ++ second) key r
  pieces_joined first second r =
      ap (λ (s : Standing). standing_so r s)
      (more_of_set second key r.standing (more_if first key (peer_at r.standing key)) ∙ ap (λ (o : Option Peer). with_peer r.standing key o) (more_joined first second (peer_at r.standing key)))

  more_nothing : (o : Option Peer) → more_if [] key o ≡ o
  more_nothing None = refl
  more_nothing (Some p) = ap (λ (q : Peer). Some q) (by_stage p.stage)
    where
      by_stage : (stage : Stage) → with_bytes [] p stage ≡ p
      by_stage (Authenticating setting state) = ap (λ (bytes : List ℕ). let q : Peer = record p { unread = bytes } in q) (append-nil p.unread)
      by_stage (Unnamed privileged) = ap (λ (bytes : List ℕ). let q : Peer = record p { unread = bytes } in q) (append-nil p.unread)
      by_stage (Named conn) = ap (λ (bytes : List ℕ). let q : Peer = record p { unread = bytes } in q) (append-nil p.unread)
      by_stage (Closing conn) = refl

  pub nothing_fed : (r : Rest) → rest_more [] key r ≡ r
  nothing_fed r =
      ap (λ (peers : List (Option Peer)). let rest : Rest = record { standing = record r.standing { peers = peers }; view = r.view } in rest)
      (ap (λ (o : Option Peer). set r.standing.peers key o) (more_nothing (peer_at r.standing key)) ∙ set-get_or r.standing.peers key None)
