use Rattle.std.proofs.Common.{rules, ◌≡◌, true, false, Box, Global, take, drop}
use Rattle.std.specs.List.{AllByRecursion as Each}
use Rattle.std.proofs.lemmas.List.Sorted.{IsPartitionPoint-from_clause}
use Rattle.names.specs.Texts.{text_lt}
use Rattle.match_index.proofs.Lists.{dropped_mapped, pairs_mapped, parted, taken_mapped}
use Rattle.seq_bus_core.specs.BusState.{OwnedName}
use Rattle.seq_bus_core.proofs.TextLemmas.{text_lt-trans}
use Rattle.registry_core.specs.NameTables.{owned_name}
use Rattle.registry_core.specs.declared.name_table.NameEntry.{NameEntry}
use Rattle.registry_core.proofs.NameTableLemmas.{Below}
use Rattle.registry_core.proofs.name_table.place_among.Goals as goal
use Rattle.registry_core.proofs.name_table.place_among.Goals.{After-name-2-1}

abbrev name_in : Box NameEntry Global → OwnedName
name_in b = owned_name b.value

sides : (c : After-name-2-1) → Each (λ b. text_lt (name_in b).name c.args.name.now ≡ true) (take c.partition_point.result c.args.entries.now) × Each (λ b. text_lt (name_in b).name c.args.name.now ≡ false) (drop c.partition_point.result c.args.entries.now)
sides c =
    let entries = c.args.entries.now in
    let name = c.args.name.now in
    parted (λ a b. Below (name_in a) (name_in b)) (λ b. text_lt b.value.name name) (λ a b. text_lt-trans a.value.name b.value.name name) entries c.partition_point.result
    (pairs_mapped Below name_in entries c.requires) c.partition_point.ensures.bound
    (λ by. IsPartitionPoint-from_clause (λ b. text_lt b.value.name name) entries c.partition_point.result c.partition_point.ensures.partitioned by (λ a r f k. search rules))

pub returns-clause-before : goal.returns-clause-before
returns-clause-before c = taken_mapped (λ n. text_lt n.name c.args.name.now ≡ true) name_in c.args.entries.now c.partition_point.result (sides c).0

pub returns-clause-behind : goal.returns-clause-behind
returns-clause-behind c = dropped_mapped (λ n. text_lt n.name c.args.name.now ≡ false) name_in c.args.entries.now c.partition_point.result (sides c).1
