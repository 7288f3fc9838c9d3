use Rattle.router_host.proofs.Doings.{does_same, does_then}
use Rattle.router_host.proofs.host.Host.turn.Goals as goal

pub returns-clause-does : goal.returns-clause-does
returns-clause-does g c = does_then c.do_all-done.ensures.does (does_same c.end_turn.ensures)
