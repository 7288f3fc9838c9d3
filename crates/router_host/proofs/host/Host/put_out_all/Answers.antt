use Rattle.std.proofs.Common.{◌∙◌}
use Rattle.router_host.proofs.Doings.{does_then}
use Rattle.router_host.proofs.host.Host.put_out_all.Goals as goal

pub loop-preserved : goal.loop-preserved
loop-preserved g c = (does_then c.loop.invariant.0 (does_then c.put_out_one.ensures.does c.take_mail.ensures.does), c.in_ok-take_mail.ensures.ok)

pub returns-in_err-put_out_one-clause-does : goal.returns-in_err-put_out_one-clause-does
returns-in_err-put_out_one-clause-does g c = does_then c.loop.invariant.0 c.put_out_one.ensures.does

pub returns-in_err-take_mail-clause-does : goal.returns-in_err-take_mail-clause-does
returns-in_err-take_mail-clause-does g c =
    does_then c.loop.invariant.0 (does_then c.put_out_one.ensures.does c.take_mail.ensures.does)

pub returns-then-not-branch-clause-does : goal.returns-then-not-branch-clause-does
returns-then-not-branch-clause-does g c = does_then c.loop.invariant.0 c.put_out_one.ensures.does
