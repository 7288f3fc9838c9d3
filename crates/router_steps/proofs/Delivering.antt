-- What an envelope brings is written.
use Rattle.std.proofs.Common.{◌≡◌, ℕ, Bool, List, refl, sym, subst}
use Rattle.seq_bus_core.specs.Histories.{History}
use Rattle.message_core.specs.Messages.{Message, IsWritten}
use Rattle.outbox_core.specs.Contents.{Said, Own, Relays, Tells, bus_message}
use Rattle.router_core.specs.Deeds.{GatedCall, Writes, Sends}
use Rattle.router_core.specs.Events.{writing}
use Rattle.router_core.specs.Scripts.{World, Does, Comes}
use Rattle.router_core.specs.Standing.{Peer, next_serial}
use Rattle.router_steps.specs.Writing.{IsSpelled}

module _ {N G : Type 0} (told : N → History) (registry_of : N → ℕ) (passes : G → GatedCall → G → Type 0) (alone : Bool) (key : ℕ) (p : Peer) (bytes : List ℕ) (w v : World N G) where
  pub relays : (said : Said) (relayed : List ℕ) → said ≡ Relays relayed → IsSpelled said (next_serial p.serial) bytes → Does told registry_of alone (Writes key bytes) w v → Comes told registry_of passes alone (writing key said p) w p v
  relays said relayed is spelled does =
      let same : bytes ≡ relayed = subst (λ s. IsSpelled s (next_serial p.serial) bytes) is spelled in
      subst (λ s. Comes told registry_of passes alone (writing key s p) w p v) (sym is) (v, subst (λ b. Does told registry_of alone (Writes key b) w v) same does, (refl, refl))

  pub tells : (said : Said) (own : Own) → said ≡ Tells own → IsSpelled said (next_serial p.serial) bytes → ((m : Message) → IsWritten bytes m → Does told registry_of alone (Sends key m) w v) →
      Comes told registry_of passes alone (writing key said p) w (record p { serial = next_serial p.serial }) v
  tells said own is spelled does =
      let written : IsWritten bytes (bus_message (next_serial p.serial) own) = subst (λ s. IsSpelled s (next_serial p.serial) bytes) is spelled in
      subst (λ s. Comes told registry_of passes alone (writing key s p) w (record p { serial = next_serial p.serial }) v) (sym is) (v, does (bus_message (next_serial p.serial) own) written, (refl, refl))
