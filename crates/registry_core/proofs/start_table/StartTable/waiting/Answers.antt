use Rattle.std.proofs.Common.{sym, ap, ◌∙◌}
use Rattle.seq_bus_core.specs.BusState.{tickets_in}
use Rattle.registry_core.proofs.StartLemmas.{all_wait}
use Rattle.registry_core.proofs.start_table.StartTable.waiting.Goals as goal

pub returns : goal.returns
returns c = c.len.ensures ∙ c.self.inside.tickets.ok.0 ∙ sym (all_wait c.self.inside.tickets.items) ∙ ap tickets_in c.self.view_is
