-- Mail is for the connection that it finds, or for nobody.
use Rattle.std.proofs.Common.{◌≡◌, ℕ, Bool, Option, Some, None, refl, sym, subst}
use Rattle.seq_bus_core.specs.Histories.{History}
use Rattle.outbox_core.specs.Contents.{Said}
use Rattle.router_core.specs.Deeds.{GatedCall}
use Rattle.router_core.specs.Events.{writing, for_entry, mail_delivery, after_note}
use Rattle.router_core.specs.Scripts.{Gives, World, Comes}
use Rattle.router_core.specs.Standing.{Peer, Standing, peer_at, with_peer}
use Rattle.router_steps.specs.Noting.{after_noting, IsNoteTaken}
use Rattle.router_steps.proofs.Sequels.{comes_then}

module _ {N G : Type 0} (told : N → History) (registry_of : N → ℕ) (passes : G → GatedCall → G → Type 0) (alone : Bool) (held : Option History) (w m : World N G) where
  -- nobody has the slot and the number
  pub dropped : (s t : Standing) (said : Said) (found : Option ℕ) → found ≡ None → t ≡ s → IsNoteTaken alone held w m → Comes told registry_of passes alone (after_note held (mail_delivery s said found)) w t m
  dropped s t said found none same takes_note =
      subst (λ o. Comes told registry_of passes alone (after_note held (mail_delivery s said o)) w t m) (sym none) (by_note held takes_note)
    where
      by_note : (h : Option History) → IsNoteTaken alone h w m → Comes told registry_of passes alone (after_note h (Gives s)) w t m
      by_note None unchanged = (same, unchanged)
      by_note (Some history) takes = (m, takes, (same, refl))

module _ {N G : Type 0} (told : N → History) (registry_of : N → ℕ) (passes : G → GatedCall → G → Type 0) (alone : Bool) (w v : World N G) where
  pub written : (held : Option History) (s : Standing) (key : ℕ) (said : Said) (q : Option Peer) →
      Comes told registry_of passes alone (after_noting held (for_entry (peer_at s key) (writing key said))) w q v →
      Comes told registry_of passes alone (after_note held (mail_delivery s said (Some key))) w (with_peer s key q) v
  written None s key said q done = comes_then told registry_of passes alone (λ o. Gives (with_peer s key o)) q v (with_peer s key q) v (refl, refl) (for_entry (peer_at s key) (writing key said)) w done
  written (Some history) s key said q done =
      (done.0, done.1, comes_then told registry_of passes alone (λ o. Gives (with_peer s key o)) q v (with_peer s key q) v (refl, refl) (for_entry (peer_at s key) (writing key said)) done.0 done.2)

  pub delivered : (held : Option History) (s : Standing) (said : Said) (found : Option ℕ) (key : ℕ) (q : Option Peer) → found ≡ Some key →
      Comes told registry_of passes alone (after_noting held (for_entry (peer_at s key) (writing key said))) w q v → Comes told registry_of passes alone (after_note held (mail_delivery s said found)) w (with_peer s key q) v
  delivered held s said found key q is done = subst (λ o. Comes told registry_of passes alone (after_note held (mail_delivery s said o)) w (with_peer s key q) v) (sym is) (written held s key said q done)
