use Rattle.seq_bus_core.proofs.ConsistencyLaws.{buses_are_consistent}
use Rattle.seq_bus_core.proofs.laws.buses_are_consistent.Goals as goal

pub returns : goal.returns
returns c = buses_are_consistent
