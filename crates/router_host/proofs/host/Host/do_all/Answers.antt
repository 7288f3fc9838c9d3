use Rattle.router_host.proofs.Doings.{does_then}
use Rattle.router_host.proofs.host.Host.do_all.Goals as goal

pub returns-clause-does : goal.returns-clause-does
returns-clause-does g c =
    does_then c.serve_all-served.ensures.does (does_then c.flush_all.ensures.does c.let_go_all.ensures.does)

pub returns-in_err-served-clause-does : goal.returns-in_err-served-clause-does
returns-in_err-served-clause-does g c = does_then c.serve_all-served.ensures.does c.flush_all.ensures.does
