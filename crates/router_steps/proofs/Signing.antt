-- A message is put with its sender's name, or it is not.
use Rattle.std.proofs.Common.{◌≡◌, ℕ, Bool, true, false, Result, Ok, Err, not, List, [], ◌∷◌, ◌++◌, filter, refl, sym, ap, subst, ◌∙◌, if◌then◌else◌, IsErrOf, IsTrue, ◌↔◌}
use Rattle.seq_bus_core.specs.Histories.{History}
use Rattle.seq_bus_core.specs.Steps.{is_among}
use Rattle.seq_bus_core.specs.declared.connection.Conn.{Conn}
use Rattle.message_core.specs.Messages.{Message}
use Rattle.message.specs.declared.fault.RelayFault.{RelayFault}
use Rattle.message.specs.declared.fault.RelayFault.TheVariants as relay
use Rattle.message.specs.MessageBytes.{message_bytes, is_too_long}
use Rattle.outbox_core.specs.Contents.{Said, Relays}
use Rattle.outbox_core.specs.Deliveries.{deliveries_of}
use Rattle.router_core.specs.declared.fate.PeerFate.{PeerFate}
use Rattle.router_core.specs.declared.cause.CloseCause.TheVariants as cause
use Rattle.seq_bus_core.specs.declared.error_kind.ErrorKind.TheVariants as error
use Rattle.router_core.specs.Deeds.{GatedCall}
use Rattle.router_core.specs.Scripts.{World, Comes, putting}
use Rattle.router_core.specs.Serving.{OfFate, nothing, closing_for, with_sender, putting_copies, relaying_to, staying_after, erring_if_call}
use Rattle.router_steps.specs.OncePut.{is_for_length, is_long, after_relay_fault}

pub long_is : {A : Type 0} (r : Result A RelayFault) (b : Bool) → (IsErrOf r relay.TooLong ↔ IsTrue b) → b ≡ is_long r
long_is (Ok done) true h = let e : Ok done ≡ Err relay.TooLong = h.1 refl in cc
long_is (Ok done) false h = refl
long_is (Err relay.NoMemory) true h = let e : Err relay.NoMemory ≡ Err relay.TooLong = h.1 refl in cc
long_is (Err relay.NoMemory) false h = refl
long_is (Err relay.TooLong) true h = refl
long_is (Err relay.TooLong) false h = let e : false ≡ true = h.0 refl in cc

-- each monitor is shown it where it has no recipients
pub deliveries_of_none : (monitors : List Conn) → deliveries_of [] monitors ≡ monitors
deliveries_of_none [] = refl
deliveries_of_none (conn ∷ conns) = ap (λ rest. conn ∷ rest) (deliveries_of_none conns)

-- the one recipient, where no monitor is shown it
pub deliveries_of_one : (to monitors : List Conn) (conn : Conn) → (to ≡ conn ∷ []) × (monitors ≡ []) → conn ∷ [] ≡ deliveries_of to monitors
deliveries_of_one to monitors conn is = sym (ap (λ (conns : List Conn). deliveries_of conns monitors) is.0 ∙ ap (λ (shown : List Conn). deliveries_of (conn ∷ []) shown) is.1)

module _ {N G : Type 0} (told : N → History) (registry_of : N → ℕ) (passes : G → GatedCall → G → Type 0) (alone : Bool) (m : Message) (sender : Conn) (goes_on : OfFate) (fate : PeerFate) (end : World N G) where
  fits : (to : List Conn) (w : World N G) → is_too_long (with_sender m sender) ≡ false → Comes told registry_of passes alone (putting_copies m sender to goes_on) w fate end → Comes told registry_of passes alone (relaying_to m sender to goes_on) w fate end
  fits to w short p = subst (λ (b : Bool). Comes told registry_of passes alone (if b then closing_for cause.TooLong else putting_copies m sender to goes_on) w fate end) (sym short) p

  put : (to : List Conn) (w n : World N G) → Comes told registry_of passes alone (putting to (Relays (message_bytes (with_sender m sender))) nothing) w tt n → Comes told registry_of passes alone goes_on n fate end → Comes told registry_of passes alone (putting_copies m sender to goes_on) w fate end
  put [] w n p q = subst (λ (u : World N G). Comes told registry_of passes alone goes_on u fate end) p.1 q
  put (conn ∷ conns) w n p q = (true, (p.0, p.1, subst (λ (u : World N G). Comes told registry_of passes alone goes_on u fate end) p.2.1 q))

  pub relays : (to : List Conn) (said : Said) (w n : World N G) → is_too_long (with_sender m sender) ≡ false → said ≡ Relays (message_bytes (with_sender m sender)) → Comes told registry_of passes alone (putting to said nothing) w tt n →
      Comes told registry_of passes alone goes_on n fate end → Comes told registry_of passes alone (relaying_to m sender to goes_on) w fate end
  relays to said w n short is p q = fits to w short (put to w n (subst (λ (s : Said). Comes told registry_of passes alone (putting to s nothing) w tt n) is p) q)

  dropped : (to monitors : List Conn) (w : World N G) → ((to ≡ []) × (monitors ≡ []) → ⊥) → Comes told registry_of passes alone (staying_after (erring_if_call m sender error.NoMemory)) w fate end →
      Comes told registry_of passes alone (putting_copies m sender (deliveries_of to monitors) goes_on) w fate end
  dropped (conn ∷ conns) monitors w some p = by (filter (λ m. not (is_among (conn ∷ conns) m)) monitors)
    where
      by : (shown : List Conn) → Comes told registry_of passes alone (putting_copies m sender (shown ++ (conn ∷ conns)) goes_on) w fate end
      by [] = (false, p)
      by (shown ∷ others) = (false, p)
  dropped [] (conn ∷ conns) w some p = (false, p)
  dropped [] [] w some p = absurd (some (refl, refl))

  pub refuses : (fault : RelayFault) (to monitors : List Conn) (w : World N G) → is_too_long (with_sender m sender) ≡ is_for_length fault → ((to ≡ []) × (monitors ≡ []) → ⊥) →
      Comes told registry_of passes alone (after_relay_fault fault m sender) w fate end → Comes told registry_of passes alone (relaying_to m sender (deliveries_of to monitors) goes_on) w fate end
  refuses relay.NoMemory to monitors w long some p = fits (deliveries_of to monitors) w long (dropped to monitors w some p)
  refuses relay.TooLong to monitors w long some p = subst (λ (b : Bool). Comes told registry_of passes alone (if b then closing_for cause.TooLong else putting_copies m sender (deliveries_of to monitors) goes_on) w fate end) (sym long) p
