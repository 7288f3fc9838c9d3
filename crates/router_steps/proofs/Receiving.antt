-- Mail is written once its note was taken.
use Rattle.std.proofs.Common.{ℕ, Bool, Option, Some, None, subst}
use Rattle.seq_bus_core.specs.Histories.{History}
use Rattle.router_core.specs.Deeds.{GatedCall}
use Rattle.router_core.specs.Scripts.{Script, World, Comes}
use Rattle.router_steps.specs.Noting.{after_noting, IsNoteTaken}

module _ {N G : Type 0} (told : N → History) (registry_of : N → ℕ) (passes : G → GatedCall → G → Type 0) (alone : Bool) (w m v : World N G) where
  pub after_note : {X : Type 0} (held : Option History) (s : Script X) (x : X) → IsNoteTaken alone held w m → Comes told registry_of passes alone s m x v → Comes told registry_of passes alone (after_noting held s) w x v
  after_note None s x same done = subst (λ (k : World N G). Comes told registry_of passes alone s k x v) same done
  after_note (Some history) s x takes done = (m, takes, done)
