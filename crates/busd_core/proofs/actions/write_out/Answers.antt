use Rattle.std.proofs.Common.{arith}
use Rattle.std.proofs.KnownBytes.{Appends-nil}
use Rattle.std.proofs.lemmas.Result.{err_from_is_err_and}
use Rattle.busd_core.specs.Happenings.{bytes_for}
use Rattle.busd_core.proofs.Each.{writes_more, writes_front, writes_flushed}
use Rattle.busd_core.proofs.actions.write_out.Goals as goal

pub loop-action-init : goal.loop-action-init
loop-action-init g c = Appends-nil (g.W.Write.contents c.args.writer.now)

pub loop-action-preserved : goal.loop-action-preserved
loop-action-preserved g c =
    let contents = g.W.Write.contents in
    writes_more (bytes_for c.args.key) c.args.actions.now c.loop-action.action-index (contents c.args.writer.now) (contents c.loop-action.writer) (contents c.write_whole.new.writer) c.loop-action.invariant
    c.action-item.result c.action-item.result (omega (arith, c.loop-action-test.true)) c.action-item.is (rw (← c.bytes_for.ensures) c.in_ok-write_whole.ensures)

pub returns-in_err-write_whole : goal.returns-in_err-write_whole
returns-in_err-write_whole g c =
    let contents = g.W.Write.contents in
    let p = err_from_is_err_and c.from_residual.result c.from_residual.ensures.1 in
    rw (p.1) (writes_front (bytes_for c.args.key) c.args.actions.now c.loop-action.action-index (contents c.args.writer.now) (contents c.loop-action.writer) (contents c.write_whole.new.writer) c.loop-action.invariant
    c.action-item.result c.action-item.result (omega (arith, c.loop-action-test.true)) c.action-item.is (rw (← c.bytes_for.ensures) c.in_err-write_whole.ensures))

pub returns : goal.returns
returns g c =
    let contents = g.W.Write.contents in
    writes_flushed (bytes_for c.args.key) c.args.actions.now c.loop-action.action-index (contents c.args.writer.now) (contents c.loop-action.writer) (contents c.flush.new.self) c.loop-action.invariant (omega (arith, c.loop-action-test.false)) c.flush.result c.flush.ensures.bytes
