use Rattle.std.proofs.Common.{◌≡◌, ◌+◌, ◌*◌, ◌≤◌, ◌++◌, length}
use Rattle.outbox.specs.Lanes.{all_of, AreGrouped}
use Rattle.outbox.proofs.opening.grouped.Given as goal

abbrev pub invariant-loop-group : goal.invariant-loop-group
invariant-loop-group g l = record {
  all : all_of l.rows.items ++ l.taps.items ≡ l.initial.taps.items;
  fits : length l.taps.items + l.group * l.places ≡ l.groups * l.places;
  grouped : AreGrouped l.group l.places l.rows.items;
  within : l.group ≤ l.groups;
}
