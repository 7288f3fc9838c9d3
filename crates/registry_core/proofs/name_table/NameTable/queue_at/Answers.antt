use Rattle.std.proofs.Common.{◌≡◌, sym, ap, ◌∙◌, Box, Global}
use Rattle.seq_bus_core.specs.BusState.{OwnedName}
use Rattle.registry_core.specs.NameTables.{owned_name}
use Rattle.registry_core.specs.declared.name_table.NameEntry.{NameEntry}
use Rattle.registry_core.proofs.NameTableLemmas.{map_at}
use Rattle.registry_core.proofs.name_table.NameTable.queue_at.Goals as goal

abbrev name_in : Box NameEntry Global → OwnedName
name_in b = owned_name b.value

pub returns : goal.returns
returns c name found =
    let items = c.self.inside.entries.items in
    let b : Box NameEntry Global = c.index.result.now in
    let at : name_in b ≡ record { name = name; queue = found.queue } = ap name_in c.index.ensures ∙ map_at name_in items c.args.place b found.front found.back (record { name = name; queue = found.queue }) (c.self.view_is ∙ found.names_are) found.between.place_is in
    ap (λ (e : NameEntry). e.queue) c.deref.ensures ∙ ap (λ (m : OwnedName). m.queue) at ∙ sym found.between.queue_is
