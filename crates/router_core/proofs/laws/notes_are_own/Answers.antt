use Rattle.router_core.proofs.Registries.{notes_are_own}
use Rattle.router_core.proofs.laws.notes_are_own.Goals as goal

pub returns : goal.returns
returns g c = notes_are_own g.V.BusView g.G.Gate
