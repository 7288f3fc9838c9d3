-- Nothing was read yet.
use Rattle.std.proofs.Common.{[]}
use Rattle.busd_core.specs.Readings.{IsRead}
use Rattle.busd_core.proofs.transfer.read_piece.Given as goal

abbrev pub invariant-loop : goal.invariant-loop
invariant-loop g l =
    IsRead (g.W.Write.contents l.writer) (g.R.ReadBeside.remaining l.initial.reader) (g.R.ReadBeside.remaining l.reader) (g.R.ReadBeside.readings l.initial.reader) (g.R.ReadBeside.readings l.reader) []
