use Rattle.std.proofs.Common.{◌≡◌, ◌+◌, ◌*◌, ◌≤◌, drop}
use Rattle.router_core.specs.Events.{making_each}
use Rattle.router_core.specs.Scripts.{World, Comes}
use Rattle.router_core.specs.Standing.{Standing}
use Rattle.router.proofs.peers.Peers.make_each.Given as goal

abbrev pub invariant-loop-joint : goal.invariant-loop-joint
invariant-loop-joint g l = record {
  room : l.initial.self.work.room ≤ l.self.work.room + 2 * l.joint-index;
  spare_verdicts : l.initial.self.work.spare_verdicts ≤ l.self.work.spare_verdicts + l.joint-index;
  keys : l.self.keys ≡ l.initial.self.keys;
  comes : (end : Standing) (v : World g.row.V-Note.Denot g.row.G.Denot) →
      Comes g.V.BusView.told g.V.BusView.registry_of g.G.Gate.passes g.V.BusView.alone (making_each (drop l.joint-index l.joints) l.self.standing) l.self.work.world end v →
      Comes g.V.BusView.told g.V.BusView.registry_of g.G.Gate.passes g.V.BusView.alone (making_each l.joints l.initial.self.standing) l.initial.self.work.world end v;
}
