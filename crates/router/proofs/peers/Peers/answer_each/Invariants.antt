use Rattle.std.proofs.Common.{◌≡◌, ◌+◌, ◌*◌, ◌≤◌, length, drop}
use Rattle.std.specs.List.{AllByRecursion}
use Rattle.std.specs.Vec.Iter.{into_iter_items}
use Rattle.router_core.specs.Events.{answering_each}
use Rattle.router_core.specs.Scripts.{World, Comes}
use Rattle.router_core.specs.Standing.{Standing}
use Rattle.router.specs.Joinings.{RepliesAlone}
use Rattle.router.proofs.peers.Peers.answer_each.Given as goal

abbrev pub invariant-loop-outcome : goal.invariant-loop-outcome
invariant-loop-outcome g l = record {
  within : l.place ≤ length l.joints;
  room : l.initial.self.work.room ≤ l.self.work.room + 2 * l.place;
  spare_verdicts : l.initial.self.work.spare_verdicts ≤ l.self.work.spare_verdicts + l.place;
  alone : AllByRecursion RepliesAlone (into_iter_items l.outcome-iterator);
  keys : l.self.keys ≡ l.initial.self.keys;
  comes : (end : Standing) (v : World g.row.V-Note.Denot g.row.G.Denot) →
      Comes g.V.BusView.told g.V.BusView.registry_of g.G.Gate.passes g.V.BusView.alone (answering_each (drop l.place l.joints) (into_iter_items l.outcome-iterator) l.self.standing) l.self.work.world end v →
      Comes g.V.BusView.told g.V.BusView.registry_of g.G.Gate.passes g.V.BusView.alone (answering_each l.joints (into_iter_items l.initial.outcome-iterator) l.initial.self.standing) l.initial.self.work.world end v;
}
