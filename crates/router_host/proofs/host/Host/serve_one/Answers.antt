use Rattle.router_host.proofs.Doings.{does_same, does_then}
use Rattle.router_host.proofs.host.Host.serve_one.Goals as goal

pub returns-clause-does : goal.returns-clause-does
returns-clause-does g c =
    does_then c.serve_line.ensures.does (does_then (does_same c.tell_others.ensures) c.take_mail.ensures.does)
