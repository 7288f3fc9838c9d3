use Rattle.std.proofs.Common.{◌+◌, ◌*◌, ◌≤◌, length}
use Rattle.std.specs.List.{AllByRecursion}
use Rattle.std.specs.Vec.Iter.{into_iter_items}
use Rattle.seq_bus_core.specs.Bounds.{IsBounded}
use Rattle.router_core.specs.Events.{announcing_all}
use Rattle.router_core.specs.Scripts.{World, Comes}
use Rattle.router_steps.proofs.context.Context.announce_all.Given as goal

abbrev pub invariant-loop-outcome : goal.invariant-loop-outcome
invariant-loop-outcome g l = record {
  few : AllByRecursion IsBounded (into_iter_items l.outcome-iterator);
  room : 194 * length (into_iter_items l.outcome-iterator) ≤ l.self.room;
  acted : l.initial.self.room + 194 * length (into_iter_items l.outcome-iterator) ≤ l.self.room + 194 * length (into_iter_items l.initial.outcome-iterator);
  comes : (v : World g.row.V-Note.Denot g.row.G.Denot) →
      Comes g.V.BusView.told g.V.BusView.registry_of g.G.Gate.passes g.V.BusView.alone (announcing_all (into_iter_items l.outcome-iterator)) l.self.world tt v →
      Comes g.V.BusView.told g.V.BusView.registry_of g.G.Gate.passes g.V.BusView.alone (announcing_all (into_iter_items l.initial.outcome-iterator)) l.initial.self.world tt v;
}
