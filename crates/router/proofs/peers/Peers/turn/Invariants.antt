use Rattle.std.proofs.Common.{◌≡◌, ◌*◌, ◌≤◌, false, [], length, drop, vec_capacity}
use Rattle.router_core.specs.Events.{turning}
use Rattle.router_core.specs.Scripts.{World, Comes}
use Rattle.router_core.specs.Standing.{Standing}
use Rattle.router.proofs.peers.Peers.turn.Given as goal

abbrev pub invariant-loop-key : goal.invariant-loop-key
invariant-loop-key g l = record {
  few : length l.joints.items ≤ l.key-index;
  capacity : length l.keys ≤ vec_capacity l.joints;
  room : 2 * length l.joints.items ≤ l.self.work.room;
  spare_verdicts : length l.joints.items ≤ l.self.work.spare_verdicts;
  joints : l.begun ≡ false → l.joints.items ≡ [];
  standing : l.begun ≡ false → l.self.standing ≡ l.initial.self.standing;
  world : l.begun ≡ false → l.self.work.world ≡ l.initial.self.work.world;
  keys : l.self.keys ≡ l.initial.self.keys;
  comes : (end : Standing) (v : World g.row.V-Note.Denot g.row.G.Denot) →
      Comes g.V.BusView.told g.V.BusView.registry_of g.G.Gate.passes g.V.BusView.alone (turning l.joints.items (drop l.key-index l.keys) l.begun l.self.standing) l.self.work.world end v →
      Comes g.V.BusView.told g.V.BusView.registry_of g.G.Gate.passes g.V.BusView.alone (turning [] l.keys false l.initial.self.standing) l.initial.self.work.world end v;
}
