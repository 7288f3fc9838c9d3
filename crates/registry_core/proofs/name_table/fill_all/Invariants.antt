use Rattle.std.proofs.Common.{◌≡◌, ◌+◌, length, take, vec_capacity}
use Rattle.registry_core.specs.NameTables.{values_of}
use Rattle.registry_core.proofs.name_table.fill_all.Given as goal

-- those before this one are there once more
abbrev pub invariant-loop-other : goal.invariant-loop-other
invariant-loop-other l = record {
  values : values_of l.entries.items ≡ values_of (take l.other-index l.others);
  fewer : length l.spare.items + l.other-index ≡ length l.fn.spare.items;
  filled : length l.entries.items ≡ l.other-index;
  room : vec_capacity l.entries ≡ vec_capacity l.fn.entries;
  spare_room : vec_capacity l.spare ≡ vec_capacity l.fn.spare;
}
