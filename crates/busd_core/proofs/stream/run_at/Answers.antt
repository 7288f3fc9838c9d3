use Rattle.std.proofs.Common.{refl, ◌∙◌}
use Rattle.std.proofs.lemmas.Result.{err_from_is_err_and}
use Rattle.router_core.specs.declared.event.Event.TheVariants.{Bytes, Next}
use Rattle.busd_core.proofs.Endings.{begins, begins_not, rests, serves_on, stops, is_gone, loses}
use Rattle.busd_core.proofs.Noting.{reads_nothing}
use Rattle.busd_core.proofs.stream.run_at.Goals as goal

pub returns-in_err-carry_out-clause-runs : goal.returns-in_err-carry_out-clause-runs
returns-in_err-carry_out-clause-runs g c =
    let contents = g.W.Write.contents in
    let p = err_from_is_err_and c.from_residual.result c.from_residual.ensures.1 in
    rw (p.1, p.2) (begins_not g.V.BusView.told g.G.Gate.passes g.V.BusView.alone c.args.seat c.free_key-key.result c.args.engine.now c.carry_out.new.engine (g.R.ReadBeside.remaining c.args.reader.now)
    (g.R.ReadBeside.readings c.args.reader.now) (contents c.args.writer.now) (contents c.carry_out.new.writer) c.in_err-carry_out.field-0.0 c.free_key-key.ensures c.in_err-carry_out.ensures)

pub loop-init : goal.loop-init
loop-init g c =
    let contents = g.W.Write.contents in (
      refl,
      begins g.V.BusView.told g.G.Gate.passes g.V.BusView.alone c.args.seat c.free_key-key.result c.args.engine.now c.carry_out.new.engine (g.R.ReadBeside.remaining c.args.reader.now) (g.R.ReadBeside.readings c.args.reader.now)
          (contents c.args.writer.now) (contents c.carry_out.new.writer) c.in_ok-carry_out.ensures,
    )

pub returns-in_err-carry_out-2-clause-runs : goal.returns-in_err-carry_out-2-clause-runs
returns-in_err-carry_out-2-clause-runs g c =
    let contents = g.W.Write.contents in
    let remaining = g.R.ReadBeside.remaining in
    let readings = g.R.ReadBeside.readings in
    let key = c.free_key-key.result in
    let nothing = reads_nothing (contents c.loop.writer) (remaining c.loop.reader) (readings c.loop.reader) in
    let p = err_from_is_err_and c.from_residual-in_err-carry_out-2.result c.from_residual-in_err-carry_out-2.ensures.1 in
    rw (p.1, p.2) (stops g.V.BusView.told g.G.Gate.passes g.V.BusView.alone c.args.seat key c.args.engine.now c.loop.engine c.carry_out-then-has_next.new.engine (remaining c.args.reader.now) (remaining c.loop.reader)
    (remaining c.loop.reader) (readings c.args.reader.now) (readings c.loop.reader) (readings c.loop.reader) (contents c.args.writer.now) (contents c.loop.writer) (contents c.carry_out-then-has_next.new.writer) (Next key)
    c.in_err-carry_out-2.field-0.0 c.free_key-key.ensures c.loop.invariant.1 refl tt nothing c.in_err-carry_out-2.ensures)

pub loop-preserved-then-has_next : goal.loop-preserved-then-has_next
loop-preserved-then-has_next g c =
    let contents = g.W.Write.contents in
    let remaining = g.R.ReadBeside.remaining in
    let readings = g.R.ReadBeside.readings in
    let key = c.free_key-key.result in
    let nothing = reads_nothing (contents c.loop.writer) (remaining c.loop.reader) (readings c.loop.reader) in (
      c.loop.invariant.0,
      serves_on g.V.BusView.told g.G.Gate.passes g.V.BusView.alone c.args.seat key c.args.engine.now c.loop.engine c.carry_out-then-has_next.new.engine (remaining c.args.reader.now) (remaining c.loop.reader)
          (remaining c.loop.reader) (readings c.args.reader.now) (readings c.loop.reader) (readings c.loop.reader) (contents c.args.writer.now) (contents c.loop.writer) (contents c.carry_out-then-has_next.new.writer) (Next key)
          c.loop.invariant.1 refl tt nothing c.in_ok-carry_out-2.ensures,
    )

pub returns-in_err-piece-clause-runs : goal.returns-in_err-piece-clause-runs
returns-in_err-piece-clause-runs g c =
    let contents = g.W.Write.contents in
    let remaining = g.R.ReadBeside.remaining in
    let readings = g.R.ReadBeside.readings in
    let p = err_from_is_err_and c.from_residual-in_err-piece.result c.from_residual-in_err-piece.ensures.1 in
    rw (p.1, p.2) (loses g.V.BusView.told g.G.Gate.passes g.V.BusView.alone c.args.seat c.free_key-key.result c.args.engine.now c.loop.engine (remaining c.args.reader.now) (remaining c.loop.reader) (remaining c.next_piece.new.reader)
    (readings c.args.reader.now) (readings c.loop.reader) (readings c.next_piece.new.reader) (contents c.args.writer.now) (contents c.loop.writer) c.in_err-piece.field-0.0 c.free_key-key.ensures c.loop.invariant.1
    (c.has_next.ensures.quiet c.if-has_next.false) c.in_err-piece.ensures.err)

pub returns-in_default-clause-runs : goal.returns-in_default-clause-runs
returns-in_default-clause-runs g c =
    let contents = g.W.Write.contents in
    let remaining = g.R.ReadBeside.remaining in
    let readings = g.R.ReadBeside.readings in
    let end = rw c.in_default.is at c.in_ok-piece.ensures.end in
    is_gone g.V.BusView.told g.G.Gate.passes g.V.BusView.alone c.args.seat c.free_key-key.result c.args.engine.now c.loop.engine c.carry_out-in_default.new.engine (remaining c.args.reader.now) (remaining c.loop.reader)
    (remaining c.next_piece.new.reader) (readings c.args.reader.now) (readings c.loop.reader) (readings c.next_piece.new.reader) (contents c.args.writer.now) (contents c.loop.writer) (contents c.carry_out-in_default.new.writer)
    c.carry_out-in_default.result c.free_key-key.ensures c.loop.invariant.1 (c.has_next.ensures.quiet c.if-has_next.false) end.0 c.carry_out-in_default.ensures

pub returns-in_err-carry_out-3-clause-runs : goal.returns-in_err-carry_out-3-clause-runs
returns-in_err-carry_out-3-clause-runs g c =
    let contents = g.W.Write.contents in
    let remaining = g.R.ReadBeside.remaining in
    let readings = g.R.ReadBeside.readings in
    let key = c.free_key-key.result in
    let read = rw c.in-Some.is at c.in_ok-piece.ensures.piece in
    let p = err_from_is_err_and c.from_residual-in_err-carry_out-3.result c.from_residual-in_err-carry_out-3.ensures.1 in
    rw (p.1, p.2) (stops g.V.BusView.told g.G.Gate.passes g.V.BusView.alone c.args.seat key c.args.engine.now c.loop.engine c.carry_out-in-loop.new.engine (remaining c.args.reader.now) (remaining c.loop.reader)
    (remaining c.next_piece.new.reader) (readings c.args.reader.now) (readings c.loop.reader) (readings c.next_piece.new.reader) (contents c.args.writer.now) (contents c.loop.writer) (contents c.carry_out-in-loop.new.writer)
    (Bytes key c.in-Some.piece) c.in_err-carry_out-3.field-0.0 c.free_key-key.ensures c.loop.invariant.1 refl (c.has_next.ensures.quiet c.if-has_next.false) read c.in_err-carry_out-3.ensures)

pub loop-preserved : goal.loop-preserved
loop-preserved g c =
    let contents = g.W.Write.contents in
    let remaining = g.R.ReadBeside.remaining in
    let readings = g.R.ReadBeside.readings in
    let key = c.free_key-key.result in
    let read = rw c.in-Some.is at c.in_ok-piece.ensures.piece in (
      c.next_piece.ensures.room ∙ c.loop.invariant.0,
      serves_on g.V.BusView.told g.G.Gate.passes g.V.BusView.alone c.args.seat key c.args.engine.now c.loop.engine c.carry_out-in-loop.new.engine (remaining c.args.reader.now) (remaining c.loop.reader)
          (remaining c.next_piece.new.reader) (readings c.args.reader.now) (readings c.loop.reader) (readings c.next_piece.new.reader) (contents c.args.writer.now) (contents c.loop.writer) (contents c.carry_out-in-loop.new.writer)
          (Bytes key c.in-Some.piece) c.loop.invariant.1 refl (c.has_next.ensures.quiet c.if-has_next.false) read c.in_ok-carry_out-3.ensures,
    )

pub returns-clause-runs : goal.returns-clause-runs
returns-clause-runs g c =
    let contents = g.W.Write.contents in
    let remaining = g.R.ReadBeside.remaining in
    let readings = g.R.ReadBeside.readings in
    rests g.V.BusView.told g.G.Gate.passes g.V.BusView.alone c.args.seat c.free_key-key.result c.args.engine.now c.loop.engine (remaining c.args.reader.now) (remaining c.loop.reader) (readings c.args.reader.now) (readings c.loop.reader)
    (contents c.args.writer.now) (contents c.loop.writer) c.free_key-key.ensures c.loop.invariant.1
