-- What was read is served, and what that brings is written.
use Rattle.std.proofs.Common.{◌≡◌, length}
use Rattle.busd_core.proofs.Endings.{HasServed}
use Rattle.busd_core.proofs.stream.run_at.Given as goal

abbrev pub invariant-loop : goal.invariant-loop
invariant-loop g l =
    (length l.buffer ≡ 4096)
    × HasServed g.V.BusView.told g.G.Gate.passes g.V.BusView.alone l.seat l.key l.fn.engine (g.R.ReadBeside.remaining l.fn.reader) (g.R.ReadBeside.remaining l.reader) (g.R.ReadBeside.readings l.fn.reader) (g.R.ReadBeside.readings l.reader)
    (g.W.Write.contents l.fn.writer) (g.W.Write.contents l.writer) l.engine
