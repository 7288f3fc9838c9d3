use Rattle.seq_bus_core.proofs.LimitLaws.{steps_keep_limits}
use Rattle.seq_bus_core.proofs.laws.steps_keep_limits.Goals as goal

pub returns : goal.returns
returns c = steps_keep_limits
