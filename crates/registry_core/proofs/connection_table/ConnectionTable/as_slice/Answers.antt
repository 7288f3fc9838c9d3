use Rattle.std.proofs.Common.{map, sym, ap, ◌∙◌}
use Rattle.registry_core.specs.ConnectionTables.{entry_of}
use Rattle.registry_core.proofs.ConnectionTableLemmas.{entries_again}
use Rattle.registry_core.proofs.connection_table.ConnectionTable.as_slice.Goals as goal

pub returns : goal.returns
returns c = c.as_slice.ensures.value ∙ sym (entries_again c.self.inside.monitors c.self.inside.entries.items) ∙ ap (map entry_of) c.self.view_is
