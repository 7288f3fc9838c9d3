use Rattle.std.proofs.Common.{arith}
use Rattle.std.proofs.lemmas.Grind.{common_steps}
use Rattle.monitor.proofs.monitor.is_watched.Goals as goal

pub returns-else-is_empty : goal.returns-else-is_empty
returns-else-is_empty g c = grind (arith, common_steps, c.any_fits.ensures, c.if-is_empty.false, c.is_empty.ensures)
