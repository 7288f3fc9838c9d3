use Rattle.std.proofs.Common.{◌≡◌, map, take}
use Rattle.router_core.specs.Together.{change_of_joint}
use Rattle.router.proofs.turn.changes_of.Given as goal

abbrev pub invariant-loop-joint : goal.invariant-loop-joint
invariant-loop-joint l = l.changes.items ≡ map change_of_joint (take l.joint-index l.joints)
