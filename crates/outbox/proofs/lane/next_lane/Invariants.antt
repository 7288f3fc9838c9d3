use Rattle.std.proofs.Common.{◌≡◌, ◌≤◌, ◌++◌, length, map, take, drop}
use Rattle.outbox.specs.Lanes.{gives, keeps_rest}
use Rattle.outbox.proofs.lane.next_lane.Given as goal

abbrev pub invariant-loop-i : goal.invariant-loop-i
invariant-loop-i g l = (l.ends.items ≡ map gives (take l.i l.initial.taps.items)) × (l.taps.items ≡ map keeps_rest (take l.i l.initial.taps.items) ++ drop l.i l.initial.taps.items) × (l.i ≤ length l.initial.taps.items)
