-- What is next of a connection, gathered or served.
use Rattle.std.proofs.Common.{◌≡◌, ℕ, Bool, true, false, Option, Some, None, Ok, List, refl, sym, ap, subst, is_some}
use Rattle.std.proofs.lemmas.Bool.{false≢true}
use Rattle.std.specs.Prelude.{IfSome}
use Rattle.slab.specs.Slab.{Slab, get, with_value}
use Rattle.sasl.specs.Settings.{Login}
use Rattle.seq_bus_core.specs.Histories.{History}
use Rattle.seq_bus_core.specs.declared.connection.Conn.{Conn}
use Rattle.message_core.specs.Said.{said}
use Rattle.driver.specs.declared.call.Call.{Call}
use Rattle.router_core.specs.declared.joint.Joint.{Joint}
use Rattle.router_core.specs.declared.joint.RuleCall.{RuleCall}
use Rattle.router_core.specs.Deeds.{GatedCall}
use Rattle.router_core.specs.Events.{Gathered, serving_apart, gathering, after_joining}
use Rattle.router_core.specs.Scripts.{World, Comes, and_then}
use Rattle.router_core.specs.Standing.{Peer, Standing, has_slot, peer_at}
use Rattle.router_core.specs.Together.{joining, rule_call}
use Rattle.router_steps.specs.Quiet.{IsQuiet}
use Rattle.router.specs.Dues.{IsDue, IsDueAt}
use Rattle.router.specs.declared.turn.Due.{Due}
use Rattle.router.specs.declared.turn.Due.TheVariants as due
use Rattle.router.proofs.Indexing.{Keeps, same_keeps}
use Rattle.router.proofs.Slabs.{standing_of, stands, stays_so, written}
use Rattle.router.proofs.Turnings.{gathers_none, gathers_apart, gathers_rule}

-- it gets no slot by that
pub due_keeps : (next : Due) (old new : Peer) → IsDue next old new → Keeps (Some old) (Some new)
due_keeps due.Nothing old new is = same_keeps (Some old) (Some new) (ap (λ (p : Peer). Some p) is.1)
due_keeps due.Apart old new is = same_keeps (Some old) (Some new) (ap (λ (p : Peer). Some p) is.1)
due_keeps (due.Rule conn message call) old new is = λ slot has. subst (λ (q : Peer). has_slot slot (Some q) ≡ true) is.2 has

is_there : {A : Type 0} (o : Option A) → is_some o ≡ true → (x : A) × (o ≡ Some x)
is_there None is = absurd (false≢true is)
is_there (Some x) is = (x, refl)

-- what is next of one connection is next of that of its key
pub due_stands : (next : Due) (slab : Slab Peer) (leaves : List ℕ) (login : Option Login) (key : ℕ) (p q : Peer) → get slab key ≡ Some p → IsDue next p q →
    IsDueAt next key (standing_of slab leaves login) (standing_of (with_value slab key q) leaves login)
due_stands due.Nothing slab leaves login key p q there is =
    let here = stands slab leaves login key (Some p) there in
    (subst (λ (o : Option Peer). IfSome o IsQuiet) (sym here) is.0, stays_so slab leaves login key p q there is.1)
due_stands due.Apart slab leaves login key p q there is = (p, stands slab leaves login key (Some p) there, is.0, stays_so slab leaves login key p q there is.1)
due_stands (due.Rule conn message call) slab leaves login key p q there is = (p, q, stands slab leaves login key (Some p) there, sym (written slab leaves login key p q there), is)

module _ {N G : Type 0} (told : N → History) (registry_of : N → ℕ) (passes : G → GatedCall → G → Type 0) (alone : Bool) (joints : List Joint) (s t : Standing) (key : ℕ) (w : World N G) where
  -- nothing is next
  pub gathers_idle : IsDueAt due.Nothing key s t → Comes told registry_of passes alone (gathering joints s key (peer_at s key)) w (record { joints = joints; standing = t; served = false }) w
  gathers_idle is =
      subst (λ (x : Standing). let end : Gathered = record { joints = joints; standing = x; served = false } in Comes told registry_of passes alone (gathering joints s key (peer_at s key)) w end w) (sym is.1) (of_peer (peer_at s key) is.0)
    where
      of_peer : (o : Option Peer) → IfSome o IsQuiet → Comes told registry_of passes alone (gathering joints s key o) w (record { joints = joints; standing = s; served = false }) w
      of_peer None quiet = (refl, refl)
      of_peer (Some p) quiet = gathers_none told registry_of passes alone joints s key p w quiet

  module _ (v : World N G) (end : Gathered) where
    -- what is next is served by itself
    pub gathers_one : IsDueAt due.Apart key s t → Comes told registry_of passes alone (serving_apart joints t key) w end v → Comes told registry_of passes alone (gathering joints s key (peer_at s key)) w end v
    gathers_one is served =
        let same = subst (λ (x : Standing). Comes told registry_of passes alone (serving_apart joints x key) w end v) is.3 served in
        subst (λ (o : Option Peer). Comes told registry_of passes alone (gathering joints s key o) w end v) (sym is.1) (gathers_apart told registry_of passes alone joints s key is.0 w v end is.2 same)

    -- it is a call that may join the others
    pub gathers_call : (conn : Conn) (message : List ℕ) (call : Call) → IsDueAt (due.Rule conn message call) key s t →
        ((c : RuleCall) → rule_call (Ok call) ≡ Some c →
        Comes told registry_of passes alone (and_then (joining (said message) conn c) (λ it. after_joining joints t (record { key = key; message = message; caller = conn; call = c }) it)) w end v) →
        Comes told registry_of passes alone (gathering joints s key (peer_at s key)) w end v
    gathers_call conn message call is served =
        let p = is.0 in
        let q = is.1 in
        let due_is = is.4 in
        let reads = is_there (rule_call (Ok call)) due_is.6 in
        let same =
        subst (λ (x : Standing). Comes told registry_of passes alone (and_then (joining (said message) conn reads.0) (λ it. after_joining joints x (record { key = key; message = message; caller = conn; call = reads.0 }) it)) w end v) is.3
        (served reads.0 reads.1)
        in
        subst (λ (o : Option Peer). Comes told registry_of passes alone (gathering joints s key o) w end v) (sym is.2)
        (gathers_rule told registry_of passes alone joints s key p q conn message call reads.0 w v end due_is.0 due_is.1 due_is.2 due_is.3 due_is.4 due_is.5 reads.1 same)
