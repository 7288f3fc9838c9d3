use Rattle.std.proofs.Common.{◌≡◌}
use Rattle.seq_bus_core.specs.BusState.{names_of}
use Rattle.seq_bus_core.specs.Steps.{names_without}
use Rattle.registry_core.specs.NameTables.{AreOwned}
use Rattle.registry_core.proofs.name_table.NameTable.leave.Given as goal

-- the connection still has so many names, and leaves the same
abbrev pub invariant-loop-left : goal.invariant-loop-left
invariant-loop-left l = record {
  left : l.left ≡ names_of l.connection l.self;
  same : names_without l.connection l.self ≡ names_without l.connection l.fn.self;
  owned : AreOwned l.self;
}

abbrev pub decreases-loop-left : goal.decreases-loop-left
decreases-loop-left l = l.left
