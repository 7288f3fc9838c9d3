use Rattle.std.proofs.Common.{rules, ◌∙◌, refl, subst}
use Rattle.routers_core.specs.Posts.{AsksFor, Ways}
use Rattle.routers_core.proofs.Slots.{at_slot}
use Rattle.routers_core.proofs.Ways.{is_put}
use Rattle.routers_core.proofs.post.LanePostPostTracedDesk.start.Goals as goal

pub returns-in-Err-clause-refused : goal.returns-in-Err-clause-refused
returns-in-Err-clause-refused g c =
    let ways : Ways _ _ = record { lane = c.self.inside.lane; places = c.self.inside.places.items; first = c.self.inside.first; starts = c.self.inside.starts } in
    let same = at_slot c.self.inside.starts 0 (search rules) (λ e is. (c.in-Err.ensures.rule e is).1) in
    (λ i. record ways { starts = same i }) ∙ c.self.view_is

pub returns-clause-asked : goal.returns-clause-asked
returns-clause-asked g c =
    let ways : Ways _ _ = record { lane = c.self.inside.lane; places = c.self.inside.places.items; first = c.self.inside.first; starts = c.self.inside.starts } in
    let starts = c.put.new.self in
    let put = is_put ways.starts 0 c.args.request starts (search rules) (λ e is. c.in_default.ensures.rule e is) in
    subst (λ (w : Ways _ _). AsksFor w c.args.request (record ways { starts = starts })) c.self.view_is (starts, put, refl)
