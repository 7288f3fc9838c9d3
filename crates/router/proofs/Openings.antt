-- A connection that comes has no slot.
use Rattle.std.proofs.Common.{◌≡◌, ℕ, true, false, Option, Some, None, List, refl, sym, ap, ◌∙◌, subst}
use Rattle.std.proofs.lemmas.Bool.{false≢true}
use Rattle.sasl.specs.Settings.{Login}
use Rattle.router_core.specs.Standing.{Peer, Stage, first_stage, newcomer, has_slot}
use Rattle.router.proofs.Indexing.{Keeps}

without_slot : (login : Option Login) (challenge : Option (List ℕ)) (slot : ℕ) → has_slot slot (Some (newcomer (first_stage login challenge))) ≡ false
without_slot login None slot = refl
without_slot None (Some challenge) slot = refl
without_slot (Some login) (Some challenge) slot = refl

pub newcomer_keeps : (login : Option Login) (challenge : Option (List ℕ)) (stage : Stage) (p : Peer) → p ≡ newcomer stage → stage ≡ first_stage login challenge → Keeps None (Some p)
newcomer_keeps login challenge stage p comes first = λ slot has.
    let is : p ≡ newcomer (first_stage login challenge) = comes ∙ ap newcomer first in
    absurd (false≢true (sym (without_slot login challenge slot) ∙ subst (λ (q : Peer). has_slot slot (Some q) ≡ true) is has))
