use Rattle.std.proofs.Common.{◌≡◌, ◌≤◌, ℕ, length, take, drop, deque_capacity, vec_capacity}
use Rattle.registry.specs.PreparedChanges.{prepared_along}
use Rattle.seq_bus_core.specs.BusState.{BusState}
use Rattle.settling.proofs.Along.{AreTakenTo}
use Rattle.settling.proofs.batch.Settlings.take.Given as goal

-- so many are taken out, and there is room for all
abbrev pub invariant-loop-i : goal.invariant-loop-i
invariant-loop-i l = record {
  taken : (s : BusState) (seat : ℕ) → l.fn.prepared ≡ prepared_along s seat l.changes → AreTakenTo s seat (take l.i l.changes) (drop l.i l.changes) (take l.i l.prepared) (drop l.i l.prepared) l.each.items;
  as_many : length l.each.items ≡ l.i;
  room : length l.changes ≤ deque_capacity l.each;
  room_told : length l.changes ≤ vec_capacity l.outcomes;
}
