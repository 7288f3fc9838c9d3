use Rattle.match_index.proofs.LawProofs.{few_connections}
use Rattle.match_index.proofs.laws.connections_are_few.Goals as goal

pub returns : goal.returns
returns c = few_connections
