use Rattle.std.proofs.Common.{◌≡◌, take, map, flat_map}
use Rattle.trace_check_core.specs.Placing.{place_seen}
use Rattle.trace_check_core.specs.Walks.{first_step, in_turn, walked_along}
use Rattle.trace_check_core.proofs.walk.wrong.Given as goal

abbrev pub invariant-loop-place : goal.invariant-loop-place
invariant-loop-place l = record { bus = l.registry; least = l.least } ≡ walked_along (first_step l.trace) (flat_map in_turn (take l.place-index (map place_seen l.places)))
