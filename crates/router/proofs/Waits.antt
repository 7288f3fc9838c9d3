-- Calls that may wait for a service.
use Rattle.std.proofs.Common.{◌≡◌, ℕ, Bool, Option, Some, None, List, refl, sym, subst}
use Rattle.std.specs.Borrow.{Bor}
use Rattle.names.specs.Texts.{Text}
use Rattle.seq_bus_core.specs.Histories.{History}
use Rattle.seq_bus_core.specs.declared.connection.Conn.{Conn}
use Rattle.seq_bus_core.specs.declared.outcome.Outcome.{Outcome}
use Rattle.seq_bus_core.specs.declared.outcome.Reply.{Reply}
use Rattle.seq_bus_core.specs.declared.outcome.Reply.TheVariants as reply
use Rattle.message_core.specs.Messages.{Message}
use Rattle.message_core.specs.Whole.{Lends}
use Rattle.router_core.specs.declared.fate.PeerFate.{PeerFate}
use Rattle.router_core.specs.declared.fate.PeerFate.TheVariants.{Stays}
use Rattle.router_core.specs.Deeds.{GatedCall}
use Rattle.router_core.specs.Scripts.{World, Comes}
use Rattle.router_core.specs.Serving.{answer_of_reply, answering_with, holding, holding_if, after_start_by, telling_change, after_watch_by}
use Rattle.router.proofs.Answering.{stays}

module _ {N G : Type 0} (told : N → History) (registry_of : N → ℕ) (passes : G → GatedCall → G → Type 0) (alone : Bool) (m : Message) (sender : Conn) where
  module _ (lent : Option (Bor (List ℕ))) (name : Option Text) (lends : Lends lent name) where
    pub waits_for_nothing : (w : World N G) → lent ≡ None → Comes told registry_of passes alone (holding m sender name) w Stays w
    waits_for_nothing w is =
        let so : Lends None name = subst (λ (l : Option (Bor (List ℕ))). Lends l name) is lends in
        subst (λ (n : Option Text). Comes told registry_of passes alone (holding m sender n) w Stays w) (sym so) (refl, refl)

    -- with memory for it, or without
    pub waits_for_name : (x : Bor (List ℕ)) (granted : Bool) (fate : PeerFate) (w v : World N G) → lent ≡ Some x → Comes told registry_of passes alone (holding_if m sender x.now granted) w fate v →
        Comes told registry_of passes alone (holding m sender name) w fate v
    waits_for_name x granted fate w v is comes =
        let so : Lends (Some x) name = subst (λ (l : Option (Bor (List ℕ))). Lends l name) is lends in
        subst (λ (n : Option Text). Comes told registry_of passes alone (holding m sender n) w fate v) (sym so) (granted, comes)

  -- what is answered at once
  pub start_still : (name : Text) (o : Outcome) (told_so : Reply) (w v : World N G) → (told_so ≡ reply.Gone → ⊥) → ((ticket : ℕ) → told_so ≡ reply.Held ticket → ⊥) →
      Comes told registry_of passes alone (answering_with m sender (answer_of_reply told_so)) w tt v → Comes told registry_of passes alone (after_start_by m sender name o told_so) w Stays v
  start_still name o reply.Gone w v there known comes = absurd (there refl)
  start_still name o (reply.Held ticket) w v there known comes = absurd (known ticket refl)
  start_still name o other w v there known comes = stays told registry_of passes alone (answering_with m sender (answer_of_reply other)) w v comes

  pub watch_still : (o : Outcome) (told_so : Reply) (w v : World N G) → (told_so ≡ reply.Gone → ⊥) → (told_so ≡ reply.Done → ⊥) →
      Comes told registry_of passes alone (telling_change m sender o) w tt v → Comes told registry_of passes alone (after_watch_by m sender o told_so) w Stays v
  watch_still o reply.Gone w v there other_so comes = absurd (there refl)
  watch_still o reply.Done w v there other_so comes = absurd (other_so refl)
  watch_still o other w v there other_so comes = stays told registry_of passes alone (telling_change m sender o) w v comes
