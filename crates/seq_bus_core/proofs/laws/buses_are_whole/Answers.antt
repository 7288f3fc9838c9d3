use Rattle.seq_bus_core.proofs.TicketLaws.{buses_are_whole}
use Rattle.seq_bus_core.proofs.laws.buses_are_whole.Goals as goal

pub returns : goal.returns
returns c = buses_are_whole
