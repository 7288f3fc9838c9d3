use Rattle.std.proofs.Common.{◌≡◌, take, map}
use Rattle.trace_check_core.specs.Placing.{line_seen}
use Rattle.trace_check_core.specs.Walks.{walked_along}
use Rattle.trace_check_core.proofs.walk.walk_place.Given as goal

abbrev pub invariant-loop-read : goal.invariant-loop-read
invariant-loop-read l = record { bus = l.registry; least = l.least } ≡ walked_along (record { bus = l.initial.registry; least = l.initial.least }) (map line_seen (take l.read-index l.read-items))
