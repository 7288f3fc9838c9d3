use Rattle.std.proofs.Common.{map, ap, ◌∙◌}
use Rattle.seq_bus_core.specs.BusState.{BusState}
use Rattle.registry_core.specs.ConnectionTables.{entry_of}
use Rattle.registry.proofs.registry.Registry.connections.Goals as goal

pub returns : goal.returns
returns c = c.as_slice.ensures ∙ ap (λ (t : BusState). map entry_of t.connections) c.self.view_is
