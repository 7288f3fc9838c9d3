use Rattle.seq_bus_core.proofs.Extending.{batches_are_legal}
use Rattle.seq_bus_core.proofs.laws.batches_are_legal.Goals as goal

pub returns : goal.returns
returns c = batches_are_legal
