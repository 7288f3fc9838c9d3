use Rattle.match_rules.proofs.RuleTextLaws.{texts_have_one_rule}
use Rattle.match_rules.proofs.laws.texts_have_one_rule.Goals as goal

pub returns : goal.returns
returns c = texts_have_one_rule
