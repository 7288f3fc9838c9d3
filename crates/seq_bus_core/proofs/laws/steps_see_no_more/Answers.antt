use Rattle.seq_bus_core.proofs.ChangeLaws.{steps_see_no_more}
use Rattle.seq_bus_core.proofs.laws.steps_see_no_more.Goals as goal

pub returns : goal.returns
returns c = steps_see_no_more
