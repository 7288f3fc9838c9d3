use Rattle.std.proofs.Common.{◌≡◌, ◌+◌, ◌-◌}
use Rattle.registry_snapshots.specs.Seats.{fresh_to}
use Rattle.registry_snapshots.proofs.shared.new_seats.Given as goal

abbrev pub invariant-loop-others : goal.invariant-loop-others
invariant-loop-others g l =
    (l.seats.items ≡ fresh_to (l.others + 1)) × (l.left.parts + l.others ≡ l.fn.routers) × (l.left.amount ≡ 0)
