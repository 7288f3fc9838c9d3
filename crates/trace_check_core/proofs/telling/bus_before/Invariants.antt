use Rattle.std.proofs.Common.{◌≡◌}
use Rattle.trace_check_core.specs.Walks.{state_before}
use Rattle.trace_check_core.proofs.telling.bus_before.Given as goal

abbrev pub invariant-loop-place : goal.invariant-loop-place
invariant-loop-place l = l.registry ≡ state_before l.trace l.place-index
