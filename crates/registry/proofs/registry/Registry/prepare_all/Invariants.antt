use Rattle.std.proofs.Common.{◌≡◌, ◌≤◌, length, take, vec_capacity}
use Rattle.registry.specs.PreparedChanges.{prepared_along, state_along}
use Rattle.registry.proofs.registry.Registry.prepare_all.Given as goal

-- so many of the changes were prepared and made, and there is room for all
abbrev pub invariant-loop-change : goal.invariant-loop-change
invariant-loop-change l = record {
  prepared : l.all.items ≡ prepared_along l.fn.self l.seat (take l.change-index l.changes);
  made : l.self ≡ state_along l.fn.self l.seat (take l.change-index l.changes);
  as_many : length l.all.items ≡ l.change-index;
  room : length l.changes ≤ vec_capacity l.all;
}
