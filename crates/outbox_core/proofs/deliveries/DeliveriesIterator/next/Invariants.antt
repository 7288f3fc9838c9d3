use Rattle.std.proofs.Common.{◌≡◌, filter, not, length}
use Rattle.seq_bus_core.specs.Steps.{is_among}
use Rattle.outbox_core.proofs.deliveries.DeliveriesIterator.next.Given as goal

-- the recipients are left, and none of the monitors was given
abbrev pub invariant-loop-first : goal.invariant-loop-first
invariant-loop-first l =
    (l.self-inside.to ≡ l.initial.self-inside.to)
    × (filter (λ m. not (is_among l.initial.self-inside.to.now m)) l.self-inside.monitors.now
    ≡ filter (λ m. not (is_among l.initial.self-inside.to.now m)) l.initial.self-inside.monitors.now)

abbrev pub decreases-loop-first : goal.decreases-loop-first
decreases-loop-first l = length l.self-inside.monitors.now
