-- How connections go on while others are served.
use Rattle.std.proofs.Common.{◌≡◌, ℕ, zero, suc, Bool, Option, Some, None, List, [], ◌∷◌, get_or, set, refl, sym, ◌∙◌, subst, inl, inr}
use Rattle.std.proofs.lemmas.Bool.{cases_eq}
use Rattle.std.proofs.lemmas.List.{get_or-set_other}
use Rattle.seq_bus_core.specs.declared.connection.Conn.{Conn}
use Rattle.router_core.specs.Events.{OfPeer, Stands, for_peer}
use Rattle.router_core.specs.Scripts.{Gives, and_then}
use Rattle.router_core.specs.Standing.{Stage, Authenticating, Unnamed, Named, Closing, Peer, Standing, peer_at, with_peer}
use Rattle.router_laws.proofs.Results.{Always, one_then, weaker}

-- It has begun its messages, and was not closed.
abbrev pub MaySpeak : Stage → Type 0
MaySpeak (Authenticating setting state) = ⊥
MaySpeak (Unnamed privileged) = Unit {0}
MaySpeak (Named conn) = Unit {0}
MaySpeak (Closing conn) = ⊥

-- A connection is as it was; or it has no name still, and is as privileged as it was; or it has a name; or it was closed.
pub data Passes (p q : Peer) : Type 0 where
  as_it_was : q ≡ p → Passes p q
  unnamed_still : (privileged : Bool) → p.stage ≡ Unnamed privileged → q.stage ≡ Unnamed privileged → Passes p q
  has_name : (conn : Conn) → MaySpeak p.stage → q.stage ≡ Named conn → Passes p q
  was_closed : (conn : Option Conn) → MaySpeak p.stage → q.stage ≡ Closing conn → Passes p q

-- one that is served stays at its stage
pub stays : (p q : Peer) → MaySpeak p.stage → q.stage ≡ p.stage → Passes p q
stays p q served same = by_stage p.stage refl served
  where
    by_stage : (stage : Stage) → p.stage ≡ stage → MaySpeak stage → Passes p q
    by_stage (Authenticating setting state) is h = absurd h
    by_stage (Unnamed privileged) is h = unnamed_still privileged is (same ∙ is)
    by_stage (Named conn) is h = has_name conn served (same ∙ is)
    by_stage (Closing conn) is h = absurd h

-- ## One after the other

served_before : (p q : Peer) → Passes p q → MaySpeak q.stage → MaySpeak p.stage
served_before p q (as_it_was e) h = subst (λ (r : Peer). MaySpeak r.stage) e h
served_before p q (unnamed_still privileged a b) h = subst (λ (s : Stage). MaySpeak s) (sym a) tt
served_before p q (has_name conn a b) h = a
served_before p q (was_closed conn a b) h = a

pub passes_then : (p q r : Peer) → Passes p q → Passes q r → Passes p r
passes_then p q r first (as_it_was e) = subst (λ (x : Peer). Passes p x) (sym e) first
passes_then p q r first (has_name conn a b) = has_name conn (served_before p q first a) b
passes_then p q r first (was_closed conn a b) = was_closed conn (served_before p q first a) b
passes_then p q r (as_it_was e) (unnamed_still privileged a b) = subst (λ (x : Peer). Passes x r) e (unnamed_still privileged a b)
passes_then p q r (unnamed_still before c d) (unnamed_still privileged a b) =
    let same : Unnamed before ≡ Unnamed privileged = sym d ∙ a in
    unnamed_still before c (b ∙ sym same)
passes_then p q r (has_name conn c d) (unnamed_still privileged a b) = let never : Named conn ≡ Unnamed privileged = sym d ∙ a in absurd (cc)
passes_then p q r (was_closed conn c d) (unnamed_still privileged a b) = let never : Closing conn ≡ Unnamed privileged = sym d ∙ a in absurd (cc)

-- ## By their keys

abbrev pub PassesAt : Option Peer → Option Peer → Type 0
PassesAt None now = now ≡ None
PassesAt (Some p) now = (q : Peer) × (now ≡ Some q) × Passes p q

pub at_rest : (o : Option Peer) → PassesAt o o
at_rest None = refl
at_rest (Some p) = (p, refl, as_it_was refl)

pub at_then : (a b c : Option Peer) → PassesAt a b → PassesAt b c → PassesAt a c
at_then None b c h k = subst (λ (o : Option Peer). PassesAt o c) h k
at_then (Some p) b c h k =
    let after : PassesAt (Some h.0) c = subst (λ (o : Option Peer). PassesAt o c) h.1 k in
    (after.0, after.1, passes_then p h.0 after.0 h.2 after.2)

pub at_one : (p q : Peer) → Passes p q → PassesAt (Some p) (Some q)
at_one p q h = (q, refl, h)

-- each connection goes on so, and who may log in stays
pub record Ahead (s t : Standing) : Type 0 where
  pub login : t.login ≡ s.login
  pub each : (key : ℕ) → PassesAt (peer_at s key) (peer_at t key)

pub ahead_same : (s t : Standing) → t.login ≡ s.login → t.peers ≡ s.peers → Ahead s t
ahead_same s t login peers = record {
  login = login;
  each = λ key. subst (λ (os : List (Option Peer)). PassesAt (peer_at s key) (get_or os key None)) (sym peers) (at_rest (peer_at s key));
}

pub ahead_none : (s : Standing) → Ahead s s
ahead_none s = ahead_same s s refl refl

pub ahead_both : (s t u : Standing) → Ahead s t → Ahead t u → Ahead s u
ahead_both s t u a b = record {
  login = b.login ∙ a.login;
  each = λ key. at_then (peer_at s key) (peer_at t key) (peer_at u key) (a.each key) (b.each key);
}

-- one is written
at_set : (a : Option Peer) (os : List (Option Peer)) (key : ℕ) (o : Option Peer) → PassesAt a (get_or os key None) → PassesAt a o → PassesAt a (get_or (set os key o) key None)
at_set a [] key o h k = h
at_set a (x ∷ os) zero o h k = k
at_set a (x ∷ os) (suc key) o h k = at_set a os key o h k

pub ahead_with : (s t : Standing) (key : ℕ) (o : Option Peer) → Ahead s t → PassesAt (peer_at s key) o → Ahead s (with_peer t key o)
ahead_with s t key o a h = record { login = a.login; each = each }
  where
    each : (other : ℕ) → PassesAt (peer_at s other) (peer_at (with_peer t key o) other)
    each other =
        elim (cases_eq other key) [
          | inl same ↦
              subst (λ (k : ℕ). PassesAt (peer_at s k) (peer_at (with_peer t key o) k)) (sym same) (at_set (peer_at s key) t.peers key o (a.each key) h)
          | inr differs ↦ subst (λ (x : Option Peer). PassesAt (peer_at s other) x) (sym (get_or-set_other t.peers key other o None differs)) (a.each other)
        ]

-- ## In scripts

pub ahead_then : (s : Standing) (script : Stands) (next : Standing → Stands) → Always (Ahead s) script → ((t : Standing) → Always (Ahead t) (next t)) → Always (Ahead s) (and_then script next)
ahead_then s script next first later =
    one_then (Ahead s) (Ahead s) next (λ t a. weaker (Ahead t) (Ahead s) (λ u b. ahead_both s t u a b) (next t) (later t)) script first

-- what is done for a connection that is there
pub for_one : (s : Standing) (key : ℕ) (p : Peer) (work : Peer → OfPeer) → PassesAt (peer_at s key) (Some p) → Always (Passes p) (work p) → Always (Ahead s) (for_peer s key (Some p) work)
for_one s key p work here h =
    one_then (λ (o : Option Peer). PassesAt (Some p) o) (Ahead s) (λ o. Gives (with_peer s key o))
    (λ o k. ahead_with s s key o (ahead_none s) (at_then (peer_at s key) (Some p) o here k))
    (and_then (work p) (λ q. Gives (Some q)))
    (one_then (Passes p) (λ (o : Option Peer). PassesAt (Some p) o) (λ q. Gives (Some q)) (λ q k. at_one p q k) (work p) h)

pub for_here : (s : Standing) (key : ℕ) (peer : Option Peer) (work : Peer → OfPeer) → peer_at s key ≡ peer → ((p : Peer) → peer ≡ Some p → Always (Passes p) (work p)) →
    Always (Ahead s) (for_peer s key peer work)
for_here s key None work here h = ahead_with s s key None (ahead_none s) (subst (λ (o : Option Peer). PassesAt o None) (sym here) refl)
for_here s key (Some p) work here h = for_one s key p work (subst (λ (o : Option Peer). PassesAt o (Some p)) (sym here) (at_rest (Some p))) (h p refl)
