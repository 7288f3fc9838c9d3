use Rattle.std.proofs.Common.{◌≡◌, ◌+◌, ◌≤◌, length}
use Rattle.std.specs.Prelude.{◌^◌}
use Rattle.trace_check_core.specs.Traces.{lines_of, trace_on}
use Rattle.trace_check_core.specs.Verdicts.{next_line}
use Rattle.trace_check_core.proofs.reading.read_lines.Given as goal

abbrev pub invariant-loop-line : goal.invariant-loop-line
invariant-loop-line l = record {
  count : next_line l.trace + length l.lines.rest.now ≤ 2 ^ 64;
  read : trace_on (next_line l.trace) l.trace (lines_of l.lines.rest.now) ≡ trace_on (next_line l.initial.trace) l.initial.trace (lines_of l.initial.lines.rest.now);
}

abbrev pub decreases-loop-line : goal.decreases-loop-line
decreases-loop-line l = length l.lines.rest.now
