use Rattle.seq_bus_core.proofs.HistoryLaws.{beginnings_are_legal}
use Rattle.seq_bus_core.proofs.laws.beginnings_are_legal.Goals as goal

pub returns : goal.returns
returns c = beginnings_are_legal
