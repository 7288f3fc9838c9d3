use Rattle.router_host.proofs.Doings.{does_flush}
use Rattle.router_host.proofs.host.Host.flush_all.Goals as goal

pub returns-clause-does : goal.returns-clause-does
returns-clause-does g c =
    rw (← c.self.view_is, ← c.self-inside.view_is) (does_flush c.flush_all.ensures.0 c.flush_all.ensures.1)
