use Rattle.std.proofs.Common.{subst}
use Rattle.std.proofs.Math.Logic.{∥∥₁_elim}
use Rattle.std.proofs.lemmas.Grind.{merely}
use Rattle.std.proofs.Props.{props}
use Rattle.match_rules.specs.RuleTexts.{IsRuleText}
use Rattle.match_rules.specs.CanonicalTexts.{rule_text}
use Rattle.match_rules.proofs.CanonicalTextLaws.{canonical_is_text}
use Rattle.match_rules.proofs.laws.rules_are_read_again.Goals as goal

pub returns : goal.returns
returns c =
    let again : ∥ IsRuleText (rule_text c.rule.inside.entries) c.rule.inside.entries ∥₁ = ∥∥₁_elim c.rule.invariant (hlevel props) (λ h. merely (canonical_is_text h.0 c.rule.inside.entries h.1)) in
    subst (λ r. ∥ IsRuleText (rule_text r) r ∥₁) c.rule.view_is again
