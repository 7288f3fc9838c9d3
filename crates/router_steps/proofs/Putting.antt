-- A message that somebody gets is put.
use Rattle.std.proofs.Common.{◌≡◌, ℕ, Bool, not, List, [], ◌∷◌, ◌++◌, filter, refl}
use Rattle.seq_bus_core.specs.Histories.{History}
use Rattle.seq_bus_core.specs.Steps.{is_among}
use Rattle.seq_bus_core.specs.declared.connection.Conn.{Conn}
use Rattle.outbox_core.specs.Contents.{Said}
use Rattle.outbox_core.specs.Deliveries.{deliveries_of}
use Rattle.router_core.specs.Deeds.{GatedCall, Puts}
use Rattle.router_core.specs.Scripts.{putting, World, Does, Comes}
use Rattle.router_core.specs.Serving.{nothing}

module _ {N G : Type 0} (told : N → History) (registry_of : N → ℕ) (passes : G → GatedCall → G → Type 0) (alone : Bool) (said : Said) (w v : World N G) where
  pub put_to_somebody : (to monitors : List Conn) → ((to ≡ []) × (monitors ≡ []) → ⊥) → Does told registry_of alone (Puts (deliveries_of to monitors) said) w v → Comes told registry_of passes alone (putting (deliveries_of to monitors) said nothing) w tt v
  put_to_somebody (conn ∷ conns) monitors some does = by (filter (λ m. not (is_among (conn ∷ conns) m)) monitors) does
    where
      by : (shown : List Conn) → Does told registry_of alone (Puts (shown ++ (conn ∷ conns)) said) w v → Comes told registry_of passes alone (putting (shown ++ (conn ∷ conns)) said nothing) w tt v
      by [] does = (v, does, (refl, refl))
      by (m ∷ shown) does = (v, does, (refl, refl))
  put_to_somebody [] (conn ∷ conns) some does = (v, does, (refl, refl))
  put_to_somebody [] [] some does = absurd (some (refl, refl))
