-- Who is welcome.
use Rattle.std.specs.Prelude.{Option, Some, None}
use Rattle.seq_bus_core.specs.declared.connection.Conn.{Conn}
use Rattle.seq_bus_core.specs.declared.outcome.Reply.{Reply}
use Rattle.seq_bus_core.specs.declared.outcome.Reply.TheVariants.{Welcome}

-- the connection that is welcome
abbrev pub welcome_conn : Reply → Option Conn
welcome_conn (Welcome conn) = Some conn
welcome_conn other = None
