use Rattle.router_host.proofs.Doings.{does_then}
use Rattle.router_host.proofs.host.Host.serve_part.Goals as goal

pub loop-preserved : goal.loop-preserved
loop-preserved g c = (does_then c.loop.invariant.0 c.serve_up_to.ensures.does, c.in_ok-serve_up_to.ensures.ok)

pub returns-in_err-serve_up_to-clause-does : goal.returns-in_err-serve_up_to-clause-does
returns-in_err-serve_up_to-clause-does g c = does_then c.loop.invariant.0 c.serve_up_to.ensures.does
