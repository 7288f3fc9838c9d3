use Rattle.std.proofs.Common.{◌≡◌, ◌≤◌, count_by, take}
use Rattle.router_core.specs.Standing.{is_unnamed}
use Rattle.router.proofs.naming.count_unnamed.Given as goal

abbrev pub invariant-loop-key : goal.invariant-loop-key
invariant-loop-key l = record { counts : l.count ≡ count_by is_unnamed (take l.key l.peers.slots); few : l.count ≤ l.key }
