use Rattle.std.proofs.Common.{◌≤◌, ◌&&◌, not, Bool, length, arith}
use Rattle.match_index.specs.Sets.{is_in}
use Rattle.seq_bus_core.specs.declared.connection.Conn.{Conn}
use Rattle.registry_core.specs.Listening.{stays}
use Rattle.registry_core.specs.declared.connection_entry.ConnectionEntry.{ConnectionEntry}
use Rattle.monitor.proofs.Places.{few_done}
use Rattle.registry_core.proofs.listening.add_found.Goals as goal

pub push-requires : goal.push-requires
push-requires c =
    let test : ConnectionEntry → Bool = λ m. stays c.args.leaver m.conn.number && (not m.is_monitor && is_in m.conn.number c.args.found.now) in
    let conn_of : ConnectionEntry → Conn = λ m. m.conn in
    let few : length c.loop-entry.to ≤ c.loop-entry.entry-index = rw c.loop-entry.invariant (few_done conn_of test c.args.entries.now c.loop-entry.entry-index) in
    omega (arith, few, c.requires.few, c.loop-entry-test.true)
