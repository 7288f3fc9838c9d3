use Rattle.std.proofs.Common.{◌≡◌, ◌≤◌, ℕ, nat_lt, length, vec_capacity, if◌then◌else◌}
use Rattle.registry_core.specs.NameTables.{numbered}
use Rattle.registry_core.proofs.name_table.NameTable.new.Given as goal

-- so many entries were made, each with a number of its own, and all have room
abbrev pub invariant-loop-id : goal.invariant-loop-id
invariant-loop-id l = record {
  made : length l.spare.items ≡ l.id;
  has_room : 1024 ≤ vec_capacity l.spare;
  numbers : (i : ℕ) → numbered i l.spare.items ≡ (if nat_lt i l.id then 1 else 0);
}
