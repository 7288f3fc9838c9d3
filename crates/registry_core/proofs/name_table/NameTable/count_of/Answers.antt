use Rattle.std.proofs.Common.{length, ap, ◌∙◌}
use Rattle.seq_bus_core.specs.BusState.{names_of}
use Rattle.registry_core.proofs.TableIndex.{ids_are, ids_length}
use Rattle.registry_core.proofs.name_table.NameTable.count_of.Goals as goal

pub returns : goal.returns
returns c =
    let r = c.self.inside in
    c.count_of.ensures.value ∙ ap length (ids_are c.args.connection r.entries.items r.spare.items r.index r.queued c.self.invariant.1 c.self.invariant.0.rise c.count_of.ensures.sorted)
    ∙ ids_length c.args.connection r.entries.items ∙ ap (names_of c.args.connection) c.self.view_is
