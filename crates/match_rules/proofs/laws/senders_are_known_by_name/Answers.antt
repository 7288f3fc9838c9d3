use Rattle.match_rules.proofs.FittingLemmas.{own_name_holds}
use Rattle.match_rules.proofs.laws.senders_are_known_by_name.Goals as goal

pub returns : goal.returns
returns c = own_name_holds
