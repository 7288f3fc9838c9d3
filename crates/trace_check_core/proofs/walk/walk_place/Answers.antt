use Rattle.std.proofs.Common.{arith}
use Rattle.trace_check_core.proofs.Walking.{read_walked}
use Rattle.trace_check_core.proofs.walk.walk_place.Goals as goal

pub loop-read-preserved : goal.loop-read-preserved
loop-read-preserved c =
    read_walked (record { bus = c.match-place.registry; least = c.match-place.least }) (record { bus = c.loop-read.registry; least = c.loop-read.least }) _ c.as_slice-read-items.result.now
    c.loop-read.read-index c.read-item.result (omega arith) c.read-item.is c.loop-read.invariant c.in_ok-least-2.ensures
