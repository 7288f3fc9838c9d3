use Rattle.std.proofs.Common.{true, List, subst}
use Rattle.seq_bus_core.specs.declared.change.Change.{Change}
use Rattle.router_core.specs.Answers.{Says, Refuses, refusal_of_batch}
use Rattle.router_core.specs.Events.{making_if}
use Rattle.router_core.specs.Scripts.{ChangesAll, Comes}
use Rattle.router.specs.Tables.{Table}
use Rattle.router.proofs.Turnings.{replies_alone}
use Rattle.router.proofs.peers.Peers.make_batch.Goals as goal

pub answer_each-requires-clause-alone : goal.answer_each-requires-clause-alone
answer_each-requires-clause-alone g c =
    replies_alone _ _ c.args.joints.now c.args.changes.items c.in-Ok.outcomes.items c.requires.changes c.in-Ok.ensures.changes.hears.told

pub returns-in-Ok-clause-comes : goal.returns-in-Ok-clause-comes
returns-in-Ok-clause-comes g c =
    let alone = g.V.BusView.alone in
    let joints = c.args.joints.now in
    let w = c.self.inside.context.world in
    let m = c.change_all.new.self.world in
    let t = c.answer_each.new.self.standing in
    let v = c.answer_each.new.self.work.world in
    let says = Says c.in-Ok.outcomes.items in
    let changed = subst (λ (cs : List Change). ChangesAll alone cs w says m) c.requires.changes c.in-Ok.ensures.changes in
    subst (λ (k : Table g.row.V-Note.Denot g.row.G.Denot). Comes g.V.BusView.told g.V.BusView.registry_of g.G.Gate.passes alone (making_if joints k.standing true) k.work.world t v) c.self.view_is
    (says, m, changed, c.answer_each.ensures.comes)

pub returns-clause-comes : goal.returns-clause-comes
returns-clause-comes g c =
    let alone = g.V.BusView.alone in
    let joints = c.args.joints.now in
    let w = c.self.inside.context.world in
    let m = c.change_all.new.self.world in
    let t = c.make_each.new.self.standing in
    let v = c.make_each.new.self.work.world in
    let refused = Refuses (refusal_of_batch c.in-Err.field-0.cause) in
    let changed = subst (λ (cs : List Change). ChangesAll alone cs w refused m) c.requires.changes c.in-Err.ensures.changes in
    subst (λ (k : Table g.row.V-Note.Denot g.row.G.Denot). Comes g.V.BusView.told g.V.BusView.registry_of g.G.Gate.passes alone (making_if joints k.standing true) k.work.world t v) c.self.view_is
    (refused, m, changed, c.make_each.ensures.comes)
