use Rattle.std.proofs.Common.{◌≡◌, map, take}
use Rattle.trace_lines.specs.Texts.{change_text}
use Rattle.bus_trace.proofs.recorder.words_of_all.Given as goal

abbrev pub invariant-loop-change : goal.invariant-loop-change
invariant-loop-change l = l.all.items ≡ map change_text (take l.change-index l.changes)
