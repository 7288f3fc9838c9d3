-- A bus whose state stands in a registry, and whose tickets in the calls that are held.
use Rattle.std.specs.Prelude.{map}
use Rattle.seq_bus_core.specs.BusState.{BusState}
use Rattle.seq_bus_core.specs.Tickets.{WholeBus}
use Rattle.activation.specs.Holdings.{Calls}

abbrev pub whole_of : BusState → Calls → WholeBus
whole_of s calls = record { state = s; waiting = map (λ w. w.what) calls }
