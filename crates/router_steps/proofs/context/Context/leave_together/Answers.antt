use Rattle.std.proofs.Common.{◌≡◌, true, false, length, arith}
use Rattle.std.proofs.lemmas.Bool.Decides.{nat_tests}
use Rattle.router_core.specs.Standing.{Standing}
use Rattle.router_steps.proofs.Gathering.{together_wants}
use Rattle.router_steps.proofs.context.Context.leave_together.Goals as goal

pub returns-in-Ok-clause-comes : goal.returns-in-Ok-clause-comes
returns-in-Ok-clause-comes g c s =
    let before : Standing = record s { due_leaves = c.args.due_leaves.now.items } in
    let end : Standing = record s { due_leaves = c.leave_batch.new.due_leaves.items } in
    let some : length c.args.numbers.now ≡ 0 → ⊥ = λ none. grind (arith, nat_tests, none, c.is_empty.ensures, c.if-is_empty.false) in
    together_wants g.V.BusView.told g.V.BusView.registry_of g.G.Gate.passes g.V.BusView.alone before end c.args.self.now.world c.leave_batch.new.self.world c.args.numbers.now true some (c.leave_batch.ensures.comes s)

pub returns-in-Err-clause-comes : goal.returns-in-Err-clause-comes
returns-in-Err-clause-comes g c s =
    let before : Standing = record s { due_leaves = c.args.due_leaves.now.items } in
    let end : Standing = record s { due_leaves = c.leave_each.new.due_leaves.items } in
    let some : length c.args.numbers.now ≡ 0 → ⊥ = λ none. grind (arith, nat_tests, none, c.is_empty.ensures, c.if-is_empty.false) in
    together_wants g.V.BusView.told g.V.BusView.registry_of g.G.Gate.passes g.V.BusView.alone before end c.args.self.now.world c.leave_each.new.self.world c.args.numbers.now false some (c.leave_each.ensures.comes s)
