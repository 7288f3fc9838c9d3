use Rattle.std.proofs.Common.{◌≤◌, ◌+◌, ℕ, length, take, drop, vec_capacity}
use Rattle.activation.specs.Holdings.{IsHolding}
use Rattle.seq_bus_core.specs.Tickets.{WholeBus}
use Rattle.settling.specs.Batches.{AreSettledTo, SettleAlong}
use Rattle.settling.proofs.batch.Settlings.settle.Given as goal

-- so many of the changes are settled, and there is room for what the others are told
abbrev pub invariant-loop-change : goal.invariant-loop-change
invariant-loop-change l = record {
  room : length l.outcomes.items + length l.each.items ≤ vec_capacity l.outcomes;
  settled : (b : WholeBus) (seat : ℕ) → IsHolding b l.fn.calls → SettleAlong b.state seat l.changes l.fn.self →
      AreSettledTo b seat (take l.change-index l.changes) (drop l.change-index l.changes) l.calls l.each.items l.outcomes.items;
}
