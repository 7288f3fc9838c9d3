use Rattle.std.proofs.Common.{sym, ap, ◌∙◌}
use Rattle.monitor.specs.Laws.{monitors_of}
use Rattle.registry_core.proofs.connection_table.ConnectionTable.monitors.Goals as goal

pub returns : goal.returns
returns c = c.as_slice.ensures.value ∙ sym c.self.invariant.watching ∙ ap monitors_of c.self.view_is
