use Rattle.std.proofs.Common.{◌≡◌, ◌≤◌, length, vec_capacity}
use Rattle.monitor.proofs.monitors.Monitors.new.Given as goal

-- so much room was made, and all has its place
abbrev pub invariant-loop-monitor : goal.invariant-loop-monitor
invariant-loop-monitor l = record { made : length l.spare.items ≡ l._monitor; has_room : 256 ≤ vec_capacity l.spare }
