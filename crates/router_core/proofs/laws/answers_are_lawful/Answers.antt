use Rattle.router_core.proofs.Asked.{answers_are_lawful}
use Rattle.router_core.proofs.laws.answers_are_lawful.Goals as goal

pub returns : goal.returns
returns g c = answers_are_lawful g.V.BusView g.G.Gate
