use Rattle.std.proofs.Common.{rules, ◌≡◌, ◌∙◌, refl, subst, inr}
use Rattle.routers_core.specs.Posts.{IsOwn, Sends, Ways}
use Rattle.routers_core.proofs.Slots.{at_slot}
use Rattle.routers_core.proofs.Ways.{is_put}
use Rattle.routers_core.proofs.post.LanePost.put_away.Goals as goal

pub returns-in-Err-clause-refused : goal.returns-in-Err-clause-refused
returns-in-Err-clause-refused g c =
    let ways : Ways _ _ = record { lane = c.self.inside.lane; places = c.self.inside.places.items; first = c.self.inside.first; starts = c.self.inside.starts } in
    let same = at_slot c.self.inside.lane c.args.slot (search rules) (λ e is. (c.in-Err.ensures.rule e is).1) in
    (λ i. record ways { lane = same i }) ∙ c.self.view_is

pub returns-clause-put : goal.returns-clause-put
returns-clause-put g c =
    let ways : Ways _ _ = record { lane = c.self.inside.lane; places = c.self.inside.places.items; first = c.self.inside.first; starts = c.self.inside.starts } in
    let lane = c.put.new.self in
    let put = is_put ways.lane c.args.slot c.args.envelope lane (search rules) (λ e is. c.in_default.ensures.rule e is) in
    subst (λ (w : Ways _ _). (IsOwn w c.args.slot → ⊥) → Sends w c.args.slot c.args.envelope (record ways { lane = lane })) c.self.view_is
    (λ others. inr (others, lane, put, refl)) c.requires
