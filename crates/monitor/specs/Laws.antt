-- What the monitors of a bus are shown.
use Rattle.std.specs.Prelude.{◌≡◌, List, [], ◌∷◌}
use Rattle.std.specs.List.{flat_map}
use Rattle.std.specs.Option.{option_map_or}
use Rattle.match_rules.specs.Facts.{Facts}
use Rattle.seq_bus_core.specs.BusState.{BusState, Connection, conn_of, head_of}
use Rattle.seq_bus_core.specs.Recipients.{monitors_shown}
use Rattle.monitor.specs.Monitors.{Monitor, conns_shown}

-- a connection as a monitor, if it is one
abbrev pub as_monitor : Connection → List Monitor
as_monitor c = option_map_or (λ rules. record { conn = conn_of c; rules = rules } ∷ []) c.monitor []

-- those of connections that are monitors
abbrev pub monitors_of : List Connection → List Monitor
monitors_of connections = flat_map as_monitor connections

-- Those that are shown a message are the monitors that the bus shows it.
abbrev pub ShownAreThoseOfTheBus : Type 0
ShownAreThoseOfTheBus = (s : BusState) (facts : Facts) →
    conns_shown (head_of s) facts (monitors_of s.connections) ≡ monitors_shown s facts
