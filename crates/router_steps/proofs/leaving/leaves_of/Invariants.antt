use Rattle.std.proofs.Common.{◌≡◌, map, take}
use Rattle.seq_bus_core.specs.declared.change.Change.TheVariants.{Leave}
use Rattle.router_steps.proofs.leaving.leaves_of.Given as goal

abbrev pub invariant-loop-number : goal.invariant-loop-number
invariant-loop-number l = l.changes.items ≡ map Leave (take l.number-index l.numbers)
