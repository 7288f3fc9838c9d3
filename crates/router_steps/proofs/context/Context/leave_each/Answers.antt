use Rattle.std.proofs.Common.{◌<◌, length, arith}
use Rattle.router_core.specs.Standing.{Standing}
use Rattle.router_steps.proofs.Rounds.{leaves_more}
use Rattle.router_steps.proofs.context.Context.leave_each.Goals as goal

pub loop-number-preserved : goal.loop-number-preserved
loop-number-preserved g c =
    let numbers = c.args.numbers.now in
    let inside : c.loop-number.number-index < length numbers = omega arith in
    record {
      room = omega arith;
      spare = omega arith;
      len = omega arith;
      capacity = omega arith;
      comes = λ s end v later.
          let before : Standing = record s { due_leaves = c.loop-number.due_leaves.items } in
          let after : Standing = record s { due_leaves = c.leave.new.due_leaves.items } in
          c.loop-number.invariant.comes s end v
          (leaves_more g.V.BusView.told g.V.BusView.registry_of g.G.Gate.passes g.V.BusView.alone c.loop-number.self.world c.leave.new.self.world v numbers c.loop-number.number-index inside before after end (c.leave.ensures.comes s) later);
    }
