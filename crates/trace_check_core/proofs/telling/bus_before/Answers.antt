use Rattle.std.proofs.Common.{◌≡◌, ◌<◌, ℕ, List, true, false, length, length-take, take, sym, ap, ◌∙◌, subst, arith}
use Rattle.std.specs.Prelude.{is_some}
use Rattle.std.specs.List.{AllByRecursion as Each}
use Rattle.trace_check_core.specs.KeptLines.{IsSeated}
use Rattle.trace_check_core.specs.Legality.{number_made}
use Rattle.trace_check_core.specs.Traces.{Trace}
use Rattle.trace_check_core.specs.Walks.{state_before}
use Rattle.trace_check_core.specs.declared.places.PlaceLines.{PlaceLines}
use Rattle.trace_check_core.proofs.BusBefore.{change_made, change_told_of, one_made, read_told_of}
use Rattle.trace_check_core.proofs.telling.bus_before.Goals as goal

pub slice_bounds-place-items-end : goal.slice_bounds-place-items-end
slice_bounds-place-items-end c =
    let there : c.place-at.result ≡ c.args.line.now.place = c.place-at.ensures.value in
    let count = length-take c.place-at.result c.args.places.now in
    omega (arith, count, there, c.requires.within)

pub loop-place-preserved : goal.loop-place-preserved
loop-place-preserved c =
    let t : Trace = c.args.trace.now in
    let places : List PlaceLines = c.args.places.now in
    let count = length-take c.place-at.result places in
    let there : c.place-at.result ≡ c.args.line.now.place = c.place-at.ensures.value in
    let inside : c.loop-place.place-index < length (take c.place-at.result places) = omega arith in
    let seated : Each (IsSeated t.routers) t.lines = subst (λ (r : ℕ). Each (IsSeated r) t.lines) c.routers.ensures.value c.routers.ensures.lines_seated in
    one_made t places c.place-at.result c.loop-place.place-index c.place-item.result c.loop-place.registry _ c.requires.placed seated c.requires.places
    (omega (arith, there, c.requires.within)) (omega (arith, count, inside)) c.place-item.is c.loop-place.invariant c.in_ok-make_change.ensures

pub returns-then-is_some : goal.returns-then-is_some
returns-then-is_some c =
    let t : Trace = c.args.trace.now in
    let count = length-take c.place-at.result c.args.places.now in
    let there : c.place-at.result ≡ c.args.line.now.place = c.place-at.ensures.value in
    let change : is_some (number_made c.args.line.now.subject) ≡ true = ap is_some (sym c.number.ensures) ∙ sym c.is_some.ensures ∙ c.if-is_some.true in
    let all : c.loop-place.place-index ≡ c.place-at.result = omega (arith, count, there, c.requires.within) in
    change_told_of t c.args.line.now c.place-at.result c.loop-place.registry there (c.place-at.ensures.placed change) change (c.loop-place.invariant ∙ ap (state_before t) all)

pub returns : goal.returns
returns c =
    let t : Trace = c.args.trace.now in
    let places : List PlaceLines = c.args.places.now in
    let count = length-take c.place-at.result places in
    let there : c.place-at.result ≡ c.args.line.now.place = c.place-at.ensures.value in
    let read : is_some (number_made c.args.line.now.subject) ≡ false = ap is_some (sym c.number.ensures) ∙ sym c.is_some.ensures ∙ c.if-is_some.false in
    let all : c.loop-place.place-index ≡ c.place-at.result = omega (arith, count, there, c.requires.within) in
    let seated : Each (IsSeated t.routers) t.lines = subst (λ (r : ℕ). Each (IsSeated r) t.lines) c.routers.ensures.value c.routers.ensures.lines_seated in
    read_told_of t c.args.line.now c.place-at.result _ there read
    (c.in_ok-make_change-2.ensures
    ∙ change_made t places c.place-at.result c.index-places-at.result c.loop-place.registry c.requires.placed seated c.requires.places (omega (arith, there, c.requires.within)) c.index-places-at.is
    (c.loop-place.invariant ∙ ap (state_before t) all))
