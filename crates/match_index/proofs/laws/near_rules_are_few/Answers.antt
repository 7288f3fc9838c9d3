use Rattle.match_index.proofs.LawProofs.{few_near}
use Rattle.match_index.proofs.laws.near_rules_are_few.Goals as goal

pub returns : goal.returns
returns c = few_near
