-- Tables of connections, of which some are monitors.
use Rattle.std.specs.Prelude.{◌≡◌, ◌==◌, ℕ, ◌<◌, ◌≤◌, Bool, Some, None, List, [], ◌∷◌, map, filter, length, not, if◌then◌else◌}
use Rattle.match_rules.specs.Rules.{Rule}
use Rattle.match_rules.specs.Lists.{Pairwise}
use Rattle.monitor.specs.Laws.{monitors_of}
use Rattle.monitor.specs.Monitors.{Monitor}
use Rattle.seq_bus_core.specs.BusState.{Connection, conn_of, is_monitor, max_connections}
use Rattle.seq_bus_core.specs.declared.connection.Conn.{Conn}
use Rattle.registry_core.specs.declared.connection_entry.ConnectionEntry.{ConnectionEntry}

-- the rules of the monitor of a number
abbrev pub rules_among : ℕ → List Monitor → List Rule
rules_among number [] = []
rules_among number (m ∷ monitors) = if m.conn.number == number then m.rules else rules_among number monitors

-- a connection, with its rules if it is a monitor
abbrev pub connection_in : List Monitor → ConnectionEntry → Connection
connection_in monitors m = record {
  number = m.conn.number;
  router = m.conn.router;
  slot = m.conn.slot;
  privileged = m.privileged;
  monitor = if m.is_monitor then Some (rules_among m.conn.number monitors) else None;
}

abbrev pub connections_in : List Monitor → List ConnectionEntry → List Connection
connections_in monitors entries = map (connection_in monitors) entries

-- a connection as it stands in a table
abbrev pub entry_of : Connection → ConnectionEntry
entry_of c = record { conn = conn_of c; privileged = c.privileged; is_monitor = is_monitor c }

abbrev pub Ascending : List Connection → Type 0
Ascending connections = Pairwise (λ a b. a.number < b.number) connections

-- The monitors are those of the connections that are monitors, in order.
pub record AreEntries (entries : List ConnectionEntry) (monitors : List Monitor) (room : ℕ) : Type 0 where
  pub rise : Ascending (connections_in monitors entries)
  pub watching : monitors_of (connections_in monitors entries) ≡ monitors
  pub few : length entries ≤ max_connections
  pub has_room : max_connections ≤ room

-- a connection that has just come
abbrev pub newcomer : Conn → Bool → Connection
newcomer conn privileged = record { number = conn.number; router = conn.router; slot = conn.slot; privileged = privileged; monitor = None }

-- the connections other than this one
abbrev pub those_without : ℕ → List Connection → List Connection
those_without number connections = filter (λ c. not (c.number == number)) connections
