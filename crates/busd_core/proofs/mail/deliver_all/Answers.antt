use Rattle.std.proofs.Common.{arith}
use Rattle.std.proofs.lemmas.Result.{err_from_is_err_and}
use Rattle.busd_core.specs.Happenings.{mail_of}
use Rattle.busd_core.proofs.Mailing.{each_more, each_stops}
use Rattle.busd_core.proofs.mail.deliver_all.Goals as goal

pub returns-in_err-deliver_one : goal.returns-in_err-deliver_one
returns-in_err-deliver_one g c =
    let contents = g.W.Write.contents in
    let x = c.action-item.result in
    let p = err_from_is_err_and c.from_residual.result c.from_residual.ensures.1 in
    rw (p.1, p.2) (each_stops g.V.BusView.told g.G.Gate.passes g.V.BusView.alone c.args.endpoint.seat c.args.endpoint.key (mail_of c.args.endpoint.seat) c.args.actions.now c.loop-action.action-index x x
    (omega (arith, c.loop-action-test.true)) c.action-item.is c.args.engine.now c.loop-action.engine c.deliver_one.new.engine (contents c.args.writer.now) (contents c.loop-action.writer) (contents c.deliver_one.new.writer)
    c.in_err-deliver_one.field-0.0 c.loop-action.invariant c.in_err-deliver_one.ensures)

pub loop-action-preserved : goal.loop-action-preserved
loop-action-preserved g c =
    let contents = g.W.Write.contents in
    let x = c.action-item.result in
    each_more g.V.BusView.told g.G.Gate.passes g.V.BusView.alone c.args.endpoint.seat c.args.endpoint.key (mail_of c.args.endpoint.seat) c.args.actions.now c.loop-action.action-index x x
    (omega (arith, c.loop-action-test.true)) c.action-item.is c.args.engine.now c.loop-action.engine c.deliver_one.new.engine (contents c.args.writer.now) (contents c.loop-action.writer) (contents c.deliver_one.new.writer)
    c.loop-action.invariant c.in_ok-deliver_one.ensures
