use Rattle.seq_bus_core.proofs.TicketLaws.{settled_tickets_are_told}
use Rattle.seq_bus_core.proofs.laws.settled_tickets_are_told.Goals as goal

pub returns : goal.returns
returns c = settled_tickets_are_told
