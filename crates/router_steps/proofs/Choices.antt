-- What comes of a script that is chosen by a test.
use Rattle.std.proofs.Common.{◌≡◌, ℕ, Bool, true, false, sym, subst}
use Rattle.std.specs.Prelude.{if◌then◌else◌}
use Rattle.seq_bus_core.specs.Histories.{History}
use Rattle.router_core.specs.Deeds.{GatedCall}
use Rattle.router_core.specs.Scripts.{Script, World, Comes}

module _ {N G : Type 0} (told : N → History) (registry_of : N → ℕ) (passes : G → GatedCall → G → Type 0) (alone : Bool) {X : Type 0} (s t : Script X) (w v : World N G) (x : X) where
  pub chosen : (b : Bool) → b ≡ true → Comes told registry_of passes alone s w x v → Comes told registry_of passes alone (if b then s else t) w x v
  chosen b is comes = subst (λ c. Comes told registry_of passes alone (if c then s else t) w x v) (sym is) comes

  pub unchosen : (b : Bool) → b ≡ false → Comes told registry_of passes alone t w x v → Comes told registry_of passes alone (if b then s else t) w x v
  unchosen b is comes = subst (λ c. Comes told registry_of passes alone (if c then s else t) w x v) (sym is) comes
