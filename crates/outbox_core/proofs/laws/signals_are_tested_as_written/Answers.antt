use Rattle.outbox_core.proofs.SignalLaws.{signals_are_tested_as_written}
use Rattle.outbox_core.proofs.laws.signals_are_tested_as_written.Goals as goal

pub returns : goal.returns
returns c = signals_are_tested_as_written
