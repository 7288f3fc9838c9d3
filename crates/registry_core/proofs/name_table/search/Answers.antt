use Rattle.std.proofs.Common.{rules, ◌≡◌, Box, Global}
use Rattle.std.specs.Ordering.{nat_cmp}
use Rattle.std.specs.Cmp.Lexicographic.{slice_cmp}
use Rattle.std.proofs.lemmas.Fn.{always_returns_same}
use Rattle.seq_bus_core.specs.BusState.{OwnedName}
use Rattle.registry_core.specs.NameTables.{owned_name}
use Rattle.registry_core.specs.declared.name_table.NameEntry.{NameEntry}
use Rattle.registry_core.proofs.NameTableLemmas.{searched}
use Rattle.registry_core.proofs.name_table.search.Goals as goal

abbrev name_in : Box NameEntry Global → OwnedName
name_in b = owned_name b.value

pub returns : goal.returns
returns c =
    let entries = c.args.entries.now in
    let name = c.args.name.now in
    searched name_in name entries c.binary_search_by.result c.requires c.binary_search_by.ensures.bound
    (c.binary_search_by.ensures.position (λ b. slice_cmp nat_cmp b.value.name name) (always_returns_same _ (λ a r. r ≡ slice_cmp nat_cmp a.0.now.value.name name) _ (λ a r f k. search rules)))
