use Rattle.std.proofs.Common.{◌-◌, ap, ◌∙◌, arith}
use Rattle.match_index.specs.PlaceIndexes.{places_in}
use Rattle.match_index.specs.PlaceIndexes.{PlacesInRoom, places_of}
use Rattle.match_index.proofs.PlaceIndexLemmas.{IsOwnPart, in_order, own_part}
use Rattle.match_index.proofs.place_index.PlaceIndex.of.Goals.{After-end_of-end}
use Rattle.match_index.proofs.place_index.PlaceIndex.of.Goals as goal

part : (c : After-end_of-end) → IsOwnPart c.args.key c.as_slice-places.result.now c.start_of-start.result c.end_of-end.result
part c = record {
  low_bound = c.start_of-start.ensures.bound;
  high_bound = c.end_of-end.ensures.bound;
  below = c.start_of-start.ensures.before;
  not_below = c.start_of-start.ensures.behind;
  not_above = c.end_of-end.ensures.before;
  above = c.end_of-end.ensures.behind;
}

pub slice_bounds-result-count : goal.slice_bounds-result-count
slice_bounds-result-count c = in_order c.args.key c.as_slice-places.result.now c.start_of-start.result c.end_of-end.result (part (goal.at.slice_bounds-result-count c).After-end_of-end)

pub slice_bounds-result-start : goal.slice_bounds-result-start
slice_bounds-result-start c = in_order c.args.key c.as_slice-places.result.now c.start_of-start.result c.end_of-end.result (part (goal.at.slice_bounds-result-start c).After-end_of-end)

pub returns : goal.returns
returns c =
    let places = c.as_slice-places.result.now in
    let start = c.start_of-start.result in
    let end = c.end_of-end.result in
    let its = part (goal.at.returns c).After-end_of-end in
    ap places_in (own_part c.args.key (end - start) places start end its (omega (arith, in_order c.args.key places start end its)))
    ∙ ap (places_of c.args.key) c.as_slice-places.ensures.value ∙ ap (λ (x : PlacesInRoom). places_of c.args.key x.places) c.self.view_is
