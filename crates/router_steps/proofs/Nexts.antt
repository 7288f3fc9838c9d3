-- What comes of the next message.
use Rattle.std.proofs.Common.{◌≡◌, ℕ, Bool, true, false, Option, Some, None, List, [], refl, sym, ap, ◌∙◌, subst, if◌then◌else◌}
use Rattle.std.proofs.lemmas.List.{set-get_or}
use Rattle.seq_bus_core.specs.Histories.{History}
use Rattle.seq_bus_core.specs.declared.connection.Conn.{Conn}
use Rattle.message_core.specs.declared.fault.FrameFault.{FrameFault}
use Rattle.message_core.specs.Said.{said}
use Rattle.driver.specs.Calls.{is_hello}
use Rattle.router_core.specs.declared.fate.PeerFate.{PeerFate}
use Rattle.router_core.specs.declared.cause.CloseCause.TheVariants as cause
use Rattle.router_core.specs.Deeds.{GatedCall}
use Rattle.router_core.specs.Events.{OfPeer, closing, after_serving, for_entry, for_peer, serving_hello, serving_named, serving_at, serving_incoming, next_at, serving_next}
use Rattle.router_core.specs.Incoming.{Waits, Whole, Faulty, IsIncoming}
use Rattle.router_core.specs.Scripts.{Gives, Framing, World, Comes, and_then}
use Rattle.router_core.specs.Serving.{serving}
use Rattle.router_core.specs.Standing.{Peer, Standing, Stage, Unnamed, Named, peer_at, with_peer}
use Rattle.router_steps.specs.Reading.{IsRest}
use Rattle.router_steps.proofs.Hellos.{for_there}
use Rattle.router_steps.proofs.Sequels.{comes_then}

module _ {N G : Type 0} (told : N → History) (registry_of : N → ℕ) (passes : G → GatedCall → G → Type 0) (alone : Bool) where
  -- what is done for a connection that is there
  pub for_some : (s : Standing) (key : ℕ) (p q : Peer) (work : Peer → OfPeer) (w n : World N G) → Comes told registry_of passes alone (work p) w q n → Comes told registry_of passes alone (for_peer s key (Some p) work) w (with_peer s key (Some q)) n
  for_some s key p q work w n done =
      comes_then told registry_of passes alone (λ (o : Option Peer). Gives (with_peer s key o)) (Some q) n (with_peer s key (Some q)) n (refl, refl) (for_entry (Some p) work) w
      (for_there told registry_of passes alone p q work w n done)

  module _ (key : ℕ) (p : Peer) (w v : World N G) where
    -- the front of its bytes is read, and it is served
    abbrev pub Reads : Standing → Peer → Type 0
    Reads s q = Comes told registry_of passes alone (Framing p.unread (λ incoming. serving_incoming s key p incoming)) w (with_peer s key (Some q)) v

    pub reads_waiting : (s : Standing) (q : Peer) → q ≡ p → peer_at s key ≡ Some p → IsIncoming p.unread Waits → v ≡ w → Reads s q
    reads_waiting s q is there waits same =
        let whole : with_peer s key (peer_at s key) ≡ s = λ i. record s { peers = set-get_or s.peers key None i } in
        let e = ap (λ (x : Peer). with_peer s key (Some x)) is ∙ ap (λ o. with_peer s key o) (sym there) ∙ whole in
        (Waits, waits, (e, same))

    pub reads_faulty : (s : Standing) (fault : FrameFault) (r q : Peer) → IsIncoming p.unread (Faulty fault) → r ≡ record p { unread = [] } → Comes told registry_of passes alone (closing key (cause.Faulty fault) r) w q v → Reads s q
    reads_faulty s fault r q incoming rest done =
        let closes : Comes told registry_of passes alone (closing key (cause.Faulty fault) p) w q v = subst (λ (x : Peer). Comes told registry_of passes alone (closing key (cause.Faulty fault) x) w q v) rest done in
        (Faulty fault, incoming, for_some s key p q (closing key (cause.Faulty fault)) w v closes)

    pub reads_other : (s : Standing) (message : List ℕ) (r q : Peer) (privileged : Bool) → IsIncoming p.unread (Whole message r.unread) → IsRest p r → is_hello (said message) ≡ false → p.stage ≡ Unnamed privileged →
        Comes told registry_of passes alone (closing key cause.NotHello r) w q v → Reads s q
    reads_other s message r q privileged incoming rest other unnamed done =
        let t : Standing = with_peer s key (Some q) in
        let here = subst (λ (x : Peer). Comes told registry_of passes alone (for_peer s key (Some x) (closing key cause.NotHello)) w t v) rest (for_some s key r q (closing key cause.NotHello) w v done) in
        let x : Peer = record p { unread = r.unread } in
        let chosen : Comes told registry_of passes alone (serving_at s key (said message) x (Unnamed privileged)) w t v =
        subst (λ (b : Bool). Comes told registry_of passes alone (if b then serving_hello s key (said message) x privileged else for_peer s key (Some x) (closing key cause.NotHello)) w t v) (sym other) here in
        (Whole message r.unread, incoming, subst (λ (stage : Stage). Comes told registry_of passes alone (serving_at s key (said message) x stage) w t v) (sym unnamed) chosen)

    pub reads_named : (s : Standing) (message : List ℕ) (r q : Peer) (conn : Conn) (fate : PeerFate) (m : World N G) → IsIncoming p.unread (Whole message r.unread) → IsRest p r → p.stage ≡ Named conn → r.watches ≡ false →
        Comes told registry_of passes alone (serving (said message) conn) w fate m → Comes told registry_of passes alone (after_serving key fate r) m q v → Reads s q
    reads_named s message r q conn fate m incoming rest named speaks served closes =
        let t : Standing = with_peer s key (Some q) in
        let work = λ (x : Peer). and_then (serving (said message) conn) (λ (f : PeerFate). after_serving key f x) in
        let done = comes_then told registry_of passes alone (λ (f : PeerFate). after_serving key f r) fate m q v closes (serving (said message) conn) w served in
        let here = subst (λ (x : Peer). Comes told registry_of passes alone (for_peer s key (Some x) work) w t v) rest (for_some s key r q work w v done) in
        let x : Peer = record p { unread = r.unread } in
        let same : p.watches ≡ false = sym (ap (λ (y : Peer). y.watches) rest) ∙ speaks in
        let chosen : Comes told registry_of passes alone (serving_at s key (said message) x (Named conn)) w t v =
        subst (λ (b : Bool). Comes told registry_of passes alone (serving_named s key (said message) x conn b) w t v) (sym same) here in
        (Whole message r.unread, incoming, subst (λ (stage : Stage). Comes told registry_of passes alone (serving_at s key (said message) x stage) w t v) (sym named) chosen)

    pub reads_watching : (s : Standing) (message : List ℕ) (r q : Peer) (conn : Conn) → IsIncoming p.unread (Whole message r.unread) → IsRest p r → p.stage ≡ Named conn → r.watches ≡ true →
        Comes told registry_of passes alone (closing key cause.MonitorSent r) w q v → Reads s q
    reads_watching s message r q conn incoming rest named watches done =
        let t : Standing = with_peer s key (Some q) in
        let here = subst (λ (x : Peer). Comes told registry_of passes alone (for_peer s key (Some x) (closing key cause.MonitorSent)) w t v) rest (for_some s key r q (closing key cause.MonitorSent) w v done) in
        let x : Peer = record p { unread = r.unread } in
        let same : p.watches ≡ true = sym (ap (λ (y : Peer). y.watches) rest) ∙ watches in
        let chosen : Comes told registry_of passes alone (serving_at s key (said message) x (Named conn)) w t v =
        subst (λ (b : Bool). Comes told registry_of passes alone (serving_named s key (said message) x conn b) w t v) (sym same) here in
        (Whole message r.unread, incoming, subst (λ (stage : Stage). Comes told registry_of passes alone (serving_at s key (said message) x stage) w t v) (sym named) chosen)

    -- so it is served next
    pub next_unnamed : (s : Standing) (q : Peer) (old : Option Peer) (privileged : Bool) → old ≡ Some p → p.stage ≡ Unnamed privileged → Reads s q → Comes told registry_of passes alone (serving_next s key old) w (with_peer s key (Some q)) v
    next_unnamed s q old privileged is unnamed reads =
        let t : Standing = with_peer s key (Some q) in
        subst (λ (o : Option Peer). Comes told registry_of passes alone (serving_next s key o) w t v) (sym is)
        (subst (λ (stage : Stage). Comes told registry_of passes alone (next_at s key p stage) w t v) (sym unnamed) reads)
