use Rattle.std.proofs.Common.{arith}
use Rattle.bus_trace.proofs.Changes.{all_lines}
use Rattle.bus_trace.proofs.writing.write_changes.Goals as goal

pub returns : goal.returns
returns c = all_lines c.loop-index.draft _ c.args.place c.args.seat c.args.number c.loop-index.index c.args.words.now c.args.outcomes.now (omega (arith, c.min-count.ensures, c.loop-index-test.false)) c.loop-index.invariant
