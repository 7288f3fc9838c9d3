use Rattle.std.proofs.Common.{◌≡◌, ◌≤◌, ◌+◌, ◌++◌, length, vec_capacity}
use Rattle.std.specs.Vec.Iter.{into_iter_items}
use Rattle.seq_bus_core.specs.Batches.{entries_of}
use Rattle.seq_bus.proofs.bus.add_entries.Given as goal

-- the entries that are there, and those of the changes that are left, are all
abbrev pub invariant-loop-change : goal.invariant-loop-change
invariant-loop-change l = record {
  left : l.left ≡ length (into_iter_items l.change-iterator);
  has_room : length l.seen.items + length (into_iter_items l.change-iterator) ≤ vec_capacity l.seen;
  all : l.seen.items ++ entries_of 1 (length l.seen.items + 1) (into_iter_items l.change-iterator)
      ≡ l.initial.seen.items ++ entries_of 1 (length l.initial.seen.items + 1) (into_iter_items l.initial.change-iterator);
}
