use Rattle.std.proofs.Common.{◌+◌, ◌*◌, ◌≤◌, length, drop, vec_len, vec_capacity}
use Rattle.router_core.specs.Events.{leaving_each}
use Rattle.router_core.specs.Scripts.{World, Comes}
use Rattle.router_core.specs.Standing.{Standing}
use Rattle.router_steps.proofs.context.Context.leave_each.Given as goal

abbrev pub invariant-loop-number : goal.invariant-loop-number
invariant-loop-number g l = record {
  room : l.initial.self.room ≤ l.self.room + 194 * l.number-index;
  spare : vec_len l.due_leaves + length l.numbers ≤ vec_capacity l.due_leaves + l.number-index;
  len : vec_len l.due_leaves ≤ vec_len l.initial.due_leaves + l.number-index;
  capacity : vec_capacity l.initial.due_leaves ≤ vec_capacity l.due_leaves;
  comes : (s : Standing) (end : Standing) (v : World g.row.V-Note.Denot g.row.G.Denot) →
      Comes g.V.BusView.told g.V.BusView.registry_of g.G.Gate.passes g.V.BusView.alone (leaving_each (drop l.number-index l.numbers) (record s { due_leaves = l.due_leaves.items })) l.self.world end v →
      Comes g.V.BusView.told g.V.BusView.registry_of g.G.Gate.passes g.V.BusView.alone (leaving_each l.numbers (record s { due_leaves = l.initial.due_leaves.items })) l.initial.self.world end v;
}
