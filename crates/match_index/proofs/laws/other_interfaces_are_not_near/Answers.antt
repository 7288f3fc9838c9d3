use Rattle.match_index.proofs.LawProofs.{other_interfaces}
use Rattle.match_index.proofs.laws.other_interfaces_are_not_near.Goals as goal

pub returns : goal.returns
returns c = other_interfaces
