use Rattle.std.proofs.Common.{ap, sym, ◌∙◌}
use Rattle.match_rules.specs.Rules.{same_rule}
use Rattle.match_rules.proofs.RuleLemmas.{same_rule-true, same_rule-same}
use Rattle.match_rules.proofs.laws.same_rules_are_one.Goals as goal

pub returns : goal.returns
returns c = λ a b ha hb. (λ h. same_rule-true a b ha.1 hb.1 h, λ e. ap (λ r. same_rule a r) (sym e) ∙ same_rule-same a)
