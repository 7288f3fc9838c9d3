use Rattle.match_rules.proofs.RuleTextLaws.{faults_are_exact}
use Rattle.match_rules.proofs.laws.faults_are_exact.Goals as goal

pub returns : goal.returns
returns c = faults_are_exact
