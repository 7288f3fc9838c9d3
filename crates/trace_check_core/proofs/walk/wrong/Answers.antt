use Rattle.std.proofs.Common.{subst, arith}
use Rattle.std.specs.List.{AllByRecursion as Each}
use Rattle.trace_check_core.specs.KeptLines.{IsSeated}
use Rattle.trace_check_core.specs.Walks.{first_step}
use Rattle.trace_check_core.proofs.Walking.{all_walked, place_walked}
use Rattle.trace_check_core.proofs.walk.wrong.Goals as goal

pub loop-place-preserved : goal.loop-place-preserved
loop-place-preserved c =
    place_walked (first_step c.args.trace.now) (record { bus = c.loop-place.registry; least = c.loop-place.least }) _ c.args.places.now c.loop-place.place-index c.place-item.result
    (omega arith) c.place-item.is c.loop-place.invariant c.in_ok-least.ensures

pub returns : goal.returns
returns c =
    all_walked c.args.trace.now c.args.places.now c.loop-place.place-index c.loop-place.registry c.loop-place.least c.requires.placed
    (subst (λ r. Each (IsSeated r) c.args.trace.now.lines) c.routers.ensures.value c.routers.ensures.lines_seated) c.requires.places (omega arith) c.loop-place.invariant
