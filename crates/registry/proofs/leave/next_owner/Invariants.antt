use Rattle.std.proofs.Common.{◌≡◌, drop}
use Rattle.owner_queues.specs.Queues.{without}
use Rattle.registry.proofs.leave.next_owner.Given as goal

-- only the connection that leaves stands before this place
abbrev pub invariant-loop-place : goal.invariant-loop-place
invariant-loop-place l = without l.leaver l.queue ≡ without l.leaver (drop l.place-index l.queue)
