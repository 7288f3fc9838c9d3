use Rattle.std.proofs.Common.{◌≡◌, ◌+◌, ◌≤◌, length, vec_capacity}
use Rattle.monitor.specs.Monitors.{without}
use Rattle.monitor.proofs.monitors.Monitors.drop_owner.Given as goal

-- the same others are left, and there is room for those that left
abbrev pub invariant-loop-place : goal.invariant-loop-place
invariant-loop-place l = record {
  same : without l.number l.self-inside.monitors.items ≡ without l.number l.fn.self;
  all : length l.self-inside.monitors.items + length l.self-inside.spare.items ≡ 256;
  has_room : 256 ≤ vec_capacity l.self-inside.monitors;
  has_spare_room : 256 ≤ vec_capacity l.self-inside.spare;
}

abbrev pub decreases-loop-place : goal.decreases-loop-place
decreases-loop-place l = length l.self-inside.monitors.items
