use Rattle.router_host.proofs.Doings.{does_then}
use Rattle.router_host.proofs.host.Host.let_go_all.Goals as goal

pub returns-clause-does : goal.returns-clause-does
returns-clause-does g c = does_then c.close_over.ensures.does c.put_out_all.ensures.does
