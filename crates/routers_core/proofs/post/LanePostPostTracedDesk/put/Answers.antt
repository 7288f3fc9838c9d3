use Rattle.std.proofs.Common.{rules, ◌≡◌, ◌∙◌, subst, OnOk, OnErr}
use Rattle.routers_core.specs.Posts.{IsFullFor, Sends, Ways}
use Rattle.routers_core.proofs.post.LanePostPostTracedDesk.put.Goals as goal

pub returns-in-Some-clause-put : goal.returns-in-Some-clause-put
returns-in-Some-clause-put g c =
    let is : c.from-slot.result ≡ c.args.to.slot = search rules in
    subst (λ (w : Ways _ _). OnOk c.put_own.result (Sends w c.args.to.slot c.args.envelope c.put_own.new.self)) c.await_earlier.ensures.same
    (subst (λ slot. OnOk c.put_own.result (Sends c.await_earlier.new.self slot c.args.envelope c.put_own.new.self)) is c.put_own.ensures.put)

pub returns-in-Some-clause-full : goal.returns-in-Some-clause-full
returns-in-Some-clause-full g c =
    let is : c.from-slot.result ≡ c.args.to.slot = search rules in
    subst (λ (w : Ways _ _). OnErr c.put_own.result (IsFullFor w c.args.to.slot)) c.await_earlier.ensures.same
    (subst (λ slot. OnErr c.put_own.result (IsFullFor c.await_earlier.new.self slot)) is c.put_own.ensures.full)

pub returns-in-None-clause-put : goal.returns-in-None-clause-put
returns-in-None-clause-put g c =
    let is : c.from-slot.result ≡ c.args.to.slot = search rules in
    subst (λ (w : Ways _ _). OnOk c.put_away.result (Sends w c.args.to.slot c.args.envelope c.put_away.new.self)) (c.look.ensures.same ∙ c.await_earlier.ensures.same)
    (subst (λ slot. OnOk c.put_away.result (Sends c.look.new.self slot c.args.envelope c.put_away.new.self)) is c.put_away.ensures.put)

pub returns-in-None-clause-full : goal.returns-in-None-clause-full
returns-in-None-clause-full g c =
    let is : c.from-slot.result ≡ c.args.to.slot = search rules in
    subst (λ (w : Ways _ _). OnErr c.put_away.result (IsFullFor w c.args.to.slot)) (c.look.ensures.same ∙ c.await_earlier.ensures.same)
    (subst (λ slot. OnErr c.put_away.result (IsFullFor c.look.new.self slot)) is c.put_away.ensures.full)
