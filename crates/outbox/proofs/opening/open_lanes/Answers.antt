use Rattle.std.proofs.Common.{List, take, ap, sym, ◌∙◌}
use Rattle.outbox.specs.Lanes.{End, lane_count, lanes_of}
use Rattle.outbox.proofs.Grouping.{take-lanes_of}
use Rattle.outbox.proofs.opening.open_lanes.Goals as goal

pub returns-clause-lanes : goal.returns-clause-lanes
returns-clause-lanes g c = let lanes = c.args.lanes in
    c.truncate.ensures.items
    ∙ ap (λ (t : List (List (End _))). take lanes t) c.in_ok-opened.ensures.lanes
    ∙ take-lanes_of lanes lane_count c.in_ok-opened.taps.items c.requires.lanes
    ∙ ap (λ (t : List (End _)). lanes_of lanes t) (sym c.in_ok-taps.ensures.taps)
