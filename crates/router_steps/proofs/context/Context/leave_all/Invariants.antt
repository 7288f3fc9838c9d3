use Rattle.std.proofs.Common.{◌+◌, ◌*◌, ◌≤◌, [], drop, vec_len, vec_capacity}
use Rattle.seq_bus_core.specs.Batches.{max_batch}
use Rattle.router_core.specs.Events.{leaving_by}
use Rattle.router_core.specs.Scripts.{World, Comes}
use Rattle.router_core.specs.Standing.{Standing}
use Rattle.router_steps.specs.Parts.{part}
use Rattle.router_steps.proofs.context.Context.leave_all.Given as goal

abbrev pub invariant-loop-place : goal.invariant-loop-place
invariant-loop-place g l = record {
  within : l.start ≤ l.place;
  few : l.place ≤ l.start + max_batch;
  room : l.initial.self.room ≤ l.self.room + 194 * l.start;
  len : vec_len l.due_leaves ≤ vec_len l.initial.due_leaves + l.start;
  capacity : vec_capacity l.initial.due_leaves ≤ vec_capacity l.due_leaves;
  comes : (s : Standing) (end : Standing) (v : World g.row.V-Note.Denot g.row.G.Denot) →
      Comes g.V.BusView.told g.V.BusView.registry_of g.G.Gate.passes g.V.BusView.alone (leaving_by (part l.numbers l.start l.place) (drop l.place l.numbers) (record s { due_leaves = l.due_leaves.items })) l.self.world end v →
      Comes g.V.BusView.told g.V.BusView.registry_of g.G.Gate.passes g.V.BusView.alone (leaving_by [] l.numbers (record s { due_leaves = l.initial.due_leaves.items })) l.initial.self.world end v;
}
