use Rattle.std.proofs.Common.{◌≡◌, map, replicate}
use Rattle.trace_check_core.specs.Placing.{no_line_there, place_seen}
use Rattle.trace_check_core.proofs.places.no_lines.Given as goal

abbrev pub invariant-loop : goal.invariant-loop
invariant-loop l = map place_seen l.places.items ≡ replicate l.counter no_line_there
