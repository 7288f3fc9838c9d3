-- A message that is put to one connection.
use Rattle.std.proofs.Common.{◌≡◌, ℕ, Bool, List, [], ◌∷◌, length, refl, subst, arith}
use Rattle.seq_bus_core.specs.Histories.{History}
use Rattle.seq_bus_core.specs.declared.connection.Conn.{Conn}
use Rattle.outbox_core.specs.Contents.{Said}
use Rattle.outbox_core.specs.Deliveries.{deliveries_of}
use Rattle.router_core.specs.Addressed.{Addressed}
use Rattle.router_core.specs.Deeds.{GatedCall, Puts}
use Rattle.router_core.specs.Scripts.{putting, World, Does, Comes}
use Rattle.router_core.specs.Serving.{nothing}

module _ {N G : Type 0} (told : N → History) (registry_of : N → ℕ) (passes : G → GatedCall → G → Type 0) (alone : Bool) (said : Said) (w v : World N G) (conn : Conn) where
  pub put_to_alone : (to : Addressed) (monitors : List Conn) → length monitors ≡ 0 → to ≡ record { to = conn ∷ []; monitors = [] } →
      Does told registry_of alone (Puts (deliveries_of to.to to.monitors) said) w v → Comes told registry_of passes alone (putting (deliveries_of (conn ∷ []) monitors) said nothing) w tt v
  put_to_alone to [] none is does =
      let done : Does told registry_of alone (Puts (conn ∷ []) said) w v = subst (λ (a : Addressed). Does told registry_of alone (Puts (deliveries_of a.to a.monitors) said) w v) is does in
      (v, done, (refl, refl))
  put_to_alone to (m ∷ monitors) none is does = let absent : ⊥ = omega (arith, none) in absurd absent
