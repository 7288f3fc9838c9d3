use Rattle.std.proofs.Common.{◌≡◌, ◌≤◌, length, vec_capacity}
use Rattle.registry_core.proofs.name_index.NameIndex.new.Given as goal

-- so many names were made, and all have room
abbrev pub invariant-loop-number : goal.invariant-loop-number
invariant-loop-number l = record { made : length l.names.items ≡ l._number; has_room : 1024 ≤ vec_capacity l.names }
