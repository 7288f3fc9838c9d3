-- Monitors, and what they are shown.
-- (D-Bus Specification: "Eavesdropping", "org.freedesktop.DBus.Monitoring.BecomeMonitor".)
use Rattle.std.specs.Prelude.{ℕ, not, ◌==◌, List, map, filter}
use Rattle.match_rules.specs.Facts.{Facts}
use Rattle.match_rules.specs.Fitting.{Heads}
use Rattle.match_rules.specs.Lists.{inserted_by}
use Rattle.match_rules.specs.Rules.{Rule}
use Rattle.seq_bus_core.specs.Recipients.{watched}
use Rattle.seq_bus_core.specs.declared.connection.Conn.{Conn}

-- where a monitor is reached, and the rules by which it is shown messages
pub record Monitor : Type 0 where
  pub conn : Conn
  pub rules : List Rule

-- the monitors with one more, which stands before the first with a higher number
abbrev pub inserted : Monitor → List Monitor → List Monitor
inserted monitor monitors = inserted_by (λ m. m.conn.number) monitor monitors

-- the monitors other than this one
abbrev pub without : ℕ → List Monitor → List Monitor
without number monitors = filter (λ m. not (m.conn.number == number)) monitors

-- where those monitors are reached that are shown a message
abbrev pub conns_shown : Heads → Facts → List Monitor → List Conn
conns_shown heads facts monitors = map (λ m. m.conn) (filter (λ m. watched heads facts m.rules) monitors)
