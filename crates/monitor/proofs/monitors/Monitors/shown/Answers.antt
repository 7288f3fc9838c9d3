use Rattle.std.proofs.Common.{◌≤◌, Bool, length, ap, arith}
use Rattle.seq_bus_core.specs.declared.connection.Conn.{Conn}
use Rattle.seq_bus_core.specs.Recipients.{watched}
use Rattle.monitor.specs.Monitors.{Monitor}
use Rattle.monitor.proofs.Places.{few_done}
use Rattle.monitor.proofs.monitors.Monitors.shown.Goals as goal

pub push-requires : goal.push-requires
push-requires g c =
    let test : Monitor → Bool = λ m. watched (g.O.Owners.heads c.args.owners.now) c.args.facts.now m.rules in
    let conn : Monitor → Conn = λ m. m.conn in
    let few : length c.loop-monitor.to ≤ c.loop-monitor.monitor-index = rw c.loop-monitor.invariant (few_done conn test c.args.self.now c.loop-monitor.monitor-index) in
    omega (arith, few, c.loop-monitor-test.true, ap length c.deref-monitor-items.ensures.value, c.self.invariant.0)
