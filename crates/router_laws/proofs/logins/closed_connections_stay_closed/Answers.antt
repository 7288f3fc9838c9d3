use Rattle.router_laws.proofs.Letting.{closed_stay_closed}
use Rattle.router_laws.proofs.logins.closed_connections_stay_closed.Goals as goal

pub returns : goal.returns
returns c = closed_stay_closed
