use Rattle.seq_bus_core.proofs.ConsistencyLaws.{steps_keep_consistency}
use Rattle.seq_bus_core.proofs.laws.steps_keep_consistency.Goals as goal

pub returns : goal.returns
returns c = steps_keep_consistency
