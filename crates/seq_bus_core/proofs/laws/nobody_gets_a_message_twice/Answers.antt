use Rattle.seq_bus_core.proofs.MonitorLaws.{nobody_gets_a_message_twice}
use Rattle.seq_bus_core.proofs.laws.nobody_gets_a_message_twice.Goals as goal

pub returns : goal.returns
returns c = nobody_gets_a_message_twice
