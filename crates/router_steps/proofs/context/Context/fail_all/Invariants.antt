use Rattle.std.proofs.Common.{◌+◌, ◌≤◌, length}
use Rattle.std.specs.Vec.Iter.{into_iter_items}
use Rattle.router_core.specs.Scripts.{World, Comes}
use Rattle.router_core.specs.Serving.{failing_all}
use Rattle.router_steps.proofs.context.Context.fail_all.Given as goal

abbrev pub invariant-loop-settled : goal.invariant-loop-settled
invariant-loop-settled g l = record {
  room : length (into_iter_items l.settled-iterator) ≤ l.self.room;
  acted : l.initial.self.room + length (into_iter_items l.settled-iterator) ≤ l.self.room + length (into_iter_items l.initial.settled-iterator);
  comes : (v : World g.row.V-Note.Denot g.row.G.Denot) →
      Comes g.V.BusView.told g.V.BusView.registry_of g.G.Gate.passes g.V.BusView.alone (failing_all l.error (into_iter_items l.settled-iterator)) l.self.world tt v →
      Comes g.V.BusView.told g.V.BusView.registry_of g.G.Gate.passes g.V.BusView.alone (failing_all l.error (into_iter_items l.initial.settled-iterator)) l.initial.self.world tt v;
}
