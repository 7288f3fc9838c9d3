use Rattle.seq_bus_core.proofs.RecipientLaws.{signals_go_to_each_once}
use Rattle.seq_bus_core.proofs.laws.signals_go_to_each_once.Goals as goal

pub returns : goal.returns
returns c = signals_go_to_each_once
