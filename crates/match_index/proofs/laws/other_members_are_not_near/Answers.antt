use Rattle.match_index.proofs.LawProofs.{other_members}
use Rattle.match_index.proofs.laws.other_members_are_not_near.Goals as goal

pub returns : goal.returns
returns c = other_members
