use Rattle.seq_bus_core.proofs.NumberLaws.{numbers_only_rise}
use Rattle.seq_bus_core.proofs.laws.numbers_only_rise.Goals as goal

pub returns : goal.returns
returns c = numbers_only_rise
