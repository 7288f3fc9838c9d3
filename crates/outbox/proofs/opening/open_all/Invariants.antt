use Rattle.std.proofs.Common.{◌≡◌, ◌≤◌, length, All}
use Rattle.outbox.specs.Lanes.{HasGiven, lane_count, lanes_of}
use Rattle.outbox.proofs.opening.open_all.Given as goal

abbrev pub invariant-loop-slot : goal.invariant-loop-slot
invariant-loop-slot g l = (length l.taps.items ≡ l.slot) × All (HasGiven 0) l.taps.items × (l.slot ≤ l.slots)

abbrev pub invariant-loop-lane : goal.invariant-loop-lane
invariant-loop-lane g l = (length l.taps.items ≡ l.slots) × All (HasGiven l.lane) l.taps.items × (l.row.items ≡ lanes_of l.lane l.taps.items) × (l.lane ≤ lane_count)
