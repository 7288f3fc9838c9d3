use Rattle.std.proofs.Common.{◌==◌, Bool, ap, ◌∙◌}
use Rattle.std.specs.List.{list_any}
use Rattle.registry_core.specs.ConnectionTables.{entry_of}
use Rattle.registry_core.specs.declared.connection_entry.ConnectionEntry.{ConnectionEntry}
use Rattle.match_index.proofs.Lists.{list_any-map}
use Rattle.registry_core.proofs.connection_table.ConnectionTable.is_taken.Goals as goal

pub returns : goal.returns
returns c =
    let test : ConnectionEntry → Bool = λ m. m.conn.slot == c.args.slot in
    c.has_slot.ensures ∙ ap (list_any test) c.as_slice.ensures ∙ list_any-map test entry_of c.args.self.now
