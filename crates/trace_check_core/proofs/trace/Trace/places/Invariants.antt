use Rattle.std.proofs.Common.{◌≡◌, ◌+◌, [], take, drop, map}
use Rattle.trace_check_core.specs.Legality.{changes_in}
use Rattle.trace_check_core.specs.Placing.{numbered, place_seen, placed_lines}
use Rattle.trace_check_core.specs.Verdicts.{first_line, first_refused, is_placed}
use Rattle.trace_check_core.proofs.trace.Trace.places.Given as goal

abbrev pub invariant-loop-line : goal.invariant-loop-line
invariant-loop-line l = record {
  count : l.number + 1 ≡ first_line l.self + l.line-index;
  places : map place_seen l.places.items ≡ placed_lines (changes_in l.lines) (numbered (first_line l.self) (take l.line-index l.lines));
  found : first_refused (is_placed (changes_in l.lines)) (first_line l.self) [] l.lines ≡ first_refused (is_placed (changes_in l.lines)) (l.number + 1) (take l.line-index l.lines) (drop l.line-index l.lines);
}
