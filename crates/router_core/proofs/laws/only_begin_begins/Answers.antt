use Rattle.router_core.proofs.FirstMessages.{only_begin_begins}
use Rattle.router_core.proofs.laws.only_begin_begins.Goals as goal

pub returns : goal.returns
returns g c = only_begin_begins g.V.BusView g.G.Gate
