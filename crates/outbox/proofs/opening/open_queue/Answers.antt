use Rattle.std.proofs.Common.{◌≡◌, ◌++◌, ◌∷◌, [], List, length, take, ap, ◌∙◌, arith}
use Rattle.std.proofs.lemmas.List.{length-append, nil_from_length}
use Rattle.outbox.specs.Lanes.{End, lane_count, lanes_of}
use Rattle.outbox.proofs.Grouping.{take-lanes_of}
use Rattle.outbox.proofs.opening.open_queue.Goals as goal

pub returns-clause-lanes : goal.returns-clause-lanes
returns-clause-lanes g c = let lanes = c.args.lanes in let rest = c.pop.new.self.items in let tap = c.in-Some.tap in
    let all = c.in-Some.ensures.items in let long = ap length all in
    let none : length rest ≡ 0 = omega (arith, long, length-append rest (tap ∷ []), c.in_ok-opened.ensures.slots) in
    let one = all ∙ ap (λ (t : List (End _)). t ++ tap ∷ []) (nil_from_length rest none) in
    c.truncate.ensures.items
    ∙ ap (λ (t : List (List (End _))). take lanes t) c.in_ok-opened.ensures.lanes
    ∙ take-lanes_of lanes lane_count c.in_ok-opened.taps.items c.requires
    ∙ ap (λ (t : List (End _)). lanes_of lanes t) one
