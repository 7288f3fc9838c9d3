use Rattle.std.proofs.Common.{◌≡◌, take}
use Rattle.registry_core.specs.NameTables.{numbers_of}
use Rattle.registry_core.proofs.name_table.renumber.Given as goal

-- those before this one have their numbers
abbrev pub invariant-loop-place : goal.invariant-loop-place
invariant-loop-place l = take l.place (numbers_of l.entries) ≡ take l.place (numbers_of l.others)
