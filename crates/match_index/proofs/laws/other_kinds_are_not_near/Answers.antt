use Rattle.match_index.proofs.LawProofs.{other_kinds}
use Rattle.match_index.proofs.laws.other_kinds_are_not_near.Goals as goal

pub returns : goal.returns
returns c = other_kinds
