use Rattle.std.proofs.Common.{arith}
use Rattle.names.proofs.Faults.{unique_text_name}
use Rattle.names.proofs.laws.connections_have_unique_names.Goals as goal

pub returns : goal.returns
returns c = unique_text_name c.args.number (omega arith)
