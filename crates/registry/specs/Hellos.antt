-- A Hello by the connection that it makes.
use Rattle.std.specs.Prelude.{ℕ, nat_lt, Bool, Option, Some, None, option_map, if◌then◌else◌}
use Rattle.seq_bus_core.specs.BusState.{BusState, max_number}
use Rattle.seq_bus_core.specs.Steps.{Stepped, free_slot, unchanged, welcomed}
use Rattle.seq_bus_core.specs.declared.connection.Conn.{Conn}
use Rattle.seq_bus_core.specs.declared.outcome.Reply.TheVariants.{LimitsExceeded}
use Rattle.registry_core.specs.ConnectionTables.{newcomer}

-- the connection that a seat makes next, if it has a free slot and there is a number left
abbrev pub next_conn : BusState → ℕ → Option Conn
next_conn s seat = if nat_lt max_number s.next_number then None else option_map (λ slot. record { number = s.next_number; slot = slot; router = seat }) (free_slot s seat)

abbrev pub welcomed_as : BusState → Bool → Option Conn → Stepped
welcomed_as s privileged None = unchanged s LimitsExceeded
welcomed_as s privileged (Some conn) = welcomed s (newcomer conn privileged)
