use Rattle.std.proofs.Common.{◌<◌, List, length, sym, ap, subst, arith, vec_capacity}
use Rattle.std.specs.List.{AllByRecursion}
use Rattle.std.proofs.lemmas.List.{length-map}
use Rattle.seq_bus_core.specs.BusState.{Connection, max_connections}
use Rattle.registry_core.specs.ConnectionTables.{connection_in, AreEntries}
use Rattle.registry_core.specs.declared.connection_entry.ConnectionEntry.{ConnectionEntry}
use Rattle.registry_core.proofs.ConnectionTableLemmas.{table_joined}
use Rattle.registry_core.proofs.connection_table.ConnectionTable.join.Goals as goal

pub invariant_of-self : goal.invariant_of-self
invariant_of-self c =
    let ms : List ConnectionEntry = c.self.inside.entries.items in
    let monitors = c.self.inside.monitors in
    let few : length ms < max_connections = omega (arith, c.requires.has_room, ap length c.self.view_is, length-map ms (connection_in monitors)) in
    let above = subst (AllByRecursion (λ (d : Connection). d.number < c.args.conn.number)) (sym c.self.view_is) c.requires.above in
    subst (λ (ns : List ConnectionEntry). AreEntries ns monitors (vec_capacity c.push_reserved.new.self)) (sym c.push_reserved.ensures.items)
    (table_joined monitors ms c.args.conn c.args.privileged (vec_capacity c.self.inside.entries) (vec_capacity c.push_reserved.new.self) c.self.invariant above few (omega (arith, c.push_reserved.ensures.capacity)))
