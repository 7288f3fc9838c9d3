-- What the first actions write was written.
use Rattle.std.proofs.Common.{take}
use Rattle.std.specs.Io.KnownBytes.{Appends}
use Rattle.busd_core.specs.Happenings.{written_to}
use Rattle.busd_core.proofs.actions.write_out.Given as goal

abbrev pub invariant-loop-action : goal.invariant-loop-action
invariant-loop-action g l = Appends (g.W.Write.contents l.initial.writer) (g.W.Write.contents l.writer) (written_to l.key (take l.action-index l.actions))
