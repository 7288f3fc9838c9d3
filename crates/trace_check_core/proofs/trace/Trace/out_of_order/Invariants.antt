use Rattle.std.proofs.Common.{◌≡◌, ◌+◌, [], length, take, drop}
use Rattle.trace_check_core.specs.SeatViews.{AreSoFar}
use Rattle.trace_check_core.specs.Verdicts.{first_line, first_refused, is_in_order}
use Rattle.trace_check_core.proofs.trace.Trace.out_of_order.Given as goal

abbrev pub invariant-loop-line : goal.invariant-loop-line
invariant-loop-line l = record {
  count : l.number + 1 ≡ first_line l.self + l.line-index;
  whole : length l.seats ≡ 9;
  seats : AreSoFar (take l.line-index l.lines) l.seats;
  found : first_refused is_in_order (first_line l.self) [] l.lines ≡ first_refused is_in_order (l.number + 1) (take l.line-index l.lines) (drop l.line-index l.lines);
}
