use Rattle.router_core.specs.Standing.{Standing}
use Rattle.router_steps.proofs.Gathering.{gathers_more, gathers_anew, few_yet, full_now}
use Rattle.router_steps.proofs.context.Context.leave_full.Goals as goal

pub returns-then-place-start-lt-MAX_BATCH-clause-comes : goal.returns-then-place-start-lt-MAX_BATCH-clause-comes
returns-then-place-start-lt-MAX_BATCH-clause-comes g c s end v later =
    let numbers = c.args.numbers.now in
    let start = c.args.start in
    let place = c.args.place in
    let before : Standing = record s { due_leaves = c.args.due_leaves.now.items } in
    let few = few_yet numbers start place c.requires.within c.requires.there c.if-place-start-lt-MAX_BATCH.true in
    gathers_more g.V.BusView.told g.V.BusView.registry_of g.G.Gate.passes g.V.BusView.alone end v numbers start place c.requires.there c.requires.within before c.args.self.now.world few later

pub returns-clause-comes : goal.returns-clause-comes
returns-clause-comes g c s end v later =
    let numbers = c.args.numbers.now in
    let start = c.args.start in
    let place = c.args.place in
    let before : Standing = record s { due_leaves = c.args.due_leaves.now.items } in
    let after : Standing = record s { due_leaves = c.leave_together.new.due_leaves.items } in
    let full = full_now numbers start place c.requires.within c.requires.there c.if-place-start-lt-MAX_BATCH.false c.requires.few in
    gathers_anew g.V.BusView.told g.V.BusView.registry_of g.G.Gate.passes g.V.BusView.alone end v numbers start place c.requires.there c.requires.within before after c.args.self.now.world c.leave_together.new.self.world full (c.leave_together.ensures.comes s) later
