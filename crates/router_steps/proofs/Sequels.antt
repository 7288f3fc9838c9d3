-- One script after another.
use Rattle.std.proofs.Common.{ℕ, Bool, subst}
use Rattle.seq_bus_core.specs.Histories.{History}
use Rattle.router_core.specs.Deeds.{GatedCall}
use Rattle.router_core.specs.Scripts.{Script, Gives, Changing, ChangingAll, Asking, Routing, AskingPresence, Noting, Framing, Calling, Gating, Wanting, Requiring, Doing, Announcing, and_then, World, Comes}

module _ {N G : Type 0} (told : N → History) (registry_of : N → ℕ) (passes : G → GatedCall → G → Type 0) (alone : Bool) {X Y : Type 0} (next : X → Script Y) (x : X) (m : World N G) (y : Y) (v : World N G) (later : Comes told registry_of passes alone (next x) m y v) where
  -- what comes of the one, then of the other
  pub comes_then : (s : Script X) (w : World N G) → Comes told registry_of passes alone s w x m → Comes told registry_of passes alone (and_then s next) w y v
  comes_then (Gives z) w p =
      subst (λ (k : World N G). Comes told registry_of passes alone (next z) k y v) p.1 (subst (λ (a : X). Comes told registry_of passes alone (next a) m y v) p.0 later)
  comes_then (Changing change goes_on) w p = (p.0, p.1, p.2, comes_then (goes_on p.0) p.1 p.3)
  comes_then (ChangingAll changes goes_on) w p = (p.0, p.1, p.2, comes_then (goes_on p.0) p.1 p.3)
  comes_then (Asking query goes_on) w p = (p.0, p.1, p.2, comes_then (goes_on p.0) p.1 p.3)
  comes_then (Routing from facts goes_on) w p = (p.0, p.1, p.2, comes_then (goes_on p.0) p.1 p.3)
  comes_then (AskingPresence number goes_on) w p = (p.0, p.1, p.2, comes_then (goes_on p.0) p.1 p.3)
  comes_then (Noting history s) w p = (p.0, p.1, comes_then s p.0 p.2)
  comes_then (Framing bytes goes_on) w p = (p.0, p.1, comes_then (goes_on p.0) w p.2)
  comes_then (Calling message goes_on) w p = (p.0, p.1, comes_then (goes_on p.0) w p.2)
  comes_then (Gating call s) w p = (p.0, p.1, comes_then s p.0 p.2)
  comes_then (Wanting goes_on) w p = (p.0, comes_then (goes_on p.0) w p.1)
  comes_then (Requiring holds s) w p = (p.0, comes_then s w p.1)
  comes_then (Doing deed s) w p = (p.0, p.1, comes_then s p.0 p.2)
  comes_then (Announcing signals s) w p = (p.0, p.1, comes_then s p.0 p.2)
