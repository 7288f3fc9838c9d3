use Rattle.match_index.proofs.LawProofs.{other_arguments}
use Rattle.match_index.proofs.laws.other_arguments_are_not_near.Goals as goal

pub returns : goal.returns
returns c = other_arguments
