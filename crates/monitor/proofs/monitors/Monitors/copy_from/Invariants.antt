use Rattle.std.proofs.Common.{◌≡◌, take}
use Rattle.monitor.proofs.monitors.Monitors.copy_from.Given as goal

-- those before this one were copied
abbrev pub invariant-loop-place : goal.invariant-loop-place
invariant-loop-place l = l.self ≡ take l.place l.other
