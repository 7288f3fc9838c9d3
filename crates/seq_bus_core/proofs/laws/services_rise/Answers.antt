use Rattle.seq_bus_core.proofs.ServiceLaws.{services_rise}
use Rattle.seq_bus_core.proofs.laws.services_rise.Goals as goal

pub returns : goal.returns
returns c = services_rise
