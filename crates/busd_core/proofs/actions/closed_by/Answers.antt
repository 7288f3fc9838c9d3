use Rattle.std.proofs.Common.{arith, refl}
use Rattle.busd_core.proofs.Closing.{closes_now, closes_later, closes_never}
use Rattle.busd_core.proofs.actions.closed_by.Goals as goal

pub loop-action-init : goal.loop-action-init
loop-action-init g c = refl

pub returns-in-Some : goal.returns-in-Some
returns-in-Some g c =
    closes_now c.args.key c.args.actions.now c.loop-action.action-index c.action-item.result c.in-Some.cause (omega (arith, c.loop-action-test.true)) c.action-item.is c.in-Some.ensures c.loop-action.invariant

pub loop-action-preserved : goal.loop-action-preserved
loop-action-preserved g c =
    closes_later c.args.key c.args.actions.now c.loop-action.action-index c.action-item.result (omega (arith, c.loop-action-test.true)) c.action-item.is c.in_default.ensures c.loop-action.invariant

pub returns : goal.returns
returns g c = closes_never c.args.key c.args.actions.now c.loop-action.action-index (omega (arith, c.loop-action-test.false)) c.loop-action.invariant
