use Rattle.std.proofs.Common.{arith}
use Rattle.names.proofs.Faults.{unique_text_injective}
use Rattle.names.proofs.laws.unique_names_differ.Goals as goal

pub returns : goal.returns
returns c = unique_text_injective c.args.first c.args.second (omega arith) (omega arith)
