use Rattle.seq_bus_core.proofs.LimitLaws.{buses_are_within_limits}
use Rattle.seq_bus_core.proofs.laws.buses_are_within_limits.Goals as goal

pub returns : goal.returns
returns c = buses_are_within_limits
