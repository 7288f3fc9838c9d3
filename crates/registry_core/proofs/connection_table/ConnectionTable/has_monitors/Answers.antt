use Rattle.std.proofs.Common.{◌==◌, not, List, length, sym, ap, ◌∙◌}
use Rattle.std.specs.List.{list_any}
use Rattle.monitor.specs.Monitors.{Monitor}
use Rattle.seq_bus_core.specs.BusState.{is_monitor}
use Rattle.registry_core.specs.ConnectionTables.{connections_in}
use Rattle.registry_core.proofs.ConnectionTableLemmas.{any_monitor}
use Rattle.registry_core.proofs.connection_table.ConnectionTable.has_monitors.Goals as goal

pub returns : goal.returns
returns c =
    let cs = connections_in c.self.inside.monitors c.self.inside.entries.items in
    ap not (c.is_empty.ensures ∙ ap (λ (ms : List Monitor). length ms == 0) (sym c.self.invariant.watching)) ∙ any_monitor cs ∙ ap (list_any is_monitor) c.self.view_is
