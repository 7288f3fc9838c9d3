use Rattle.std.proofs.Common.{◌≡◌, ◌+◌, ◌≤◌, Option, List, [], length, take, drop}
use Rattle.router_core.specs.Events.{checking_each}
use Rattle.router_core.specs.Scripts.{World, Comes}
use Rattle.router_core.specs.Standing.{Peer, trimmed}
use Rattle.router.proofs.tick.check_all.Given as goal

abbrev pub invariant-loop-key : goal.invariant-loop-key
invariant-loop-key g l = record {
  room : l.initial.context.room ≤ l.context.room + l.key;
  places : length l.peers.slots ≡ length l.initial.peers.slots;
  vacant_key : l.peers.vacant_key ≡ l.initial.peers.vacant_key;
  capacity : l.peers.capacity ≡ l.initial.peers.capacity;
  comes : (ys : List (Option Peer)) (v : World g.row.V-Note.Denot g.row.G.Denot) →
      Comes g.V.BusView.told g.V.BusView.registry_of g.G.Gate.passes g.V.BusView.alone (checking_each (take l.key (trimmed l.peers.slots)) (drop l.key (trimmed l.peers.slots))) l.context.world ys v →
      Comes g.V.BusView.told g.V.BusView.registry_of g.G.Gate.passes g.V.BusView.alone (checking_each [] (trimmed l.initial.peers.slots)) l.initial.context.world ys v;
}
