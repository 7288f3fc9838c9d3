use Rattle.std.proofs.Common.{◌≡◌, map, filter, take}
use Rattle.seq_bus_core.specs.Recipients.{watched}
use Rattle.monitor.proofs.monitors.Monitors.shown.Given as goal

-- those before this one that are shown the message
abbrev pub invariant-loop-monitor : goal.invariant-loop-monitor
invariant-loop-monitor g l =
    l.to ≡ map (λ m. m.conn) (filter (λ m. watched (g.O.Owners.heads l.owners) l.facts m.rules) (take l.monitor-index l.self))
