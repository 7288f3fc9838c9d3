use Rattle.router_host.proofs.Doings.{does_then}
use Rattle.router_host.proofs.host.Host.serve_share.Goals as goal

pub loop-preserved : goal.loop-preserved
loop-preserved g c =
    (does_then c.loop.invariant.0 (does_then c.serve_part.ensures.does c.take_mail.ensures.does), c.in_ok-take_mail.ensures.ok)

pub returns-in_err-serve_part-clause-does : goal.returns-in_err-serve_part-clause-does
returns-in_err-serve_part-clause-does g c = does_then c.loop.invariant.0 c.serve_part.ensures.does

pub returns-in_err-take_mail-clause-does : goal.returns-in_err-take_mail-clause-does
returns-in_err-take_mail-clause-does g c =
    does_then c.loop.invariant.0 (does_then c.serve_part.ensures.does c.take_mail.ensures.does)
