-- The state of a bus once a change is made.
use Rattle.std.specs.Prelude.{◌≡◌, ℕ, true, Option, Some, None}
use Rattle.seq_bus_core.specs.BusState.{BusState, is_client}
use Rattle.seq_bus_core.specs.Steps.{with_connection, with_monitor, without_connection}
use Rattle.registry_core.specs.ConnectionTables.{newcomer}
use Rattle.registry.specs.Requests.{requeued}
use Rattle.registry.specs.declared.after.Pending.{Pending}
use Rattle.registry.specs.declared.after.Pending.TheVariants.{Joined, Requeued, Left, Becoming}

abbrev pub state_after : Pending → BusState → BusState
state_after (Joined conn privileged) s = with_connection s (newcomer conn privileged)
state_after (Requeued name queue) s = requeued s name.now queue.now
state_after (Left connection) s = without_connection s connection
state_after (Becoming connection rules) s = with_monitor s connection rules.now

-- whose names and rules go
abbrev pub leaver_of : Pending → Option ℕ
leaver_of (Joined conn privileged) = None
leaver_of (Requeued name queue) = None
leaver_of (Left connection) = Some connection
leaver_of (Becoming connection rules) = Some connection

-- Who says Hello has the next number, and who leaves or becomes a monitor is a client.
abbrev pub IsDue : Pending → BusState → Type 0
IsDue (Joined conn privileged) s = conn.number ≡ s.next_number
IsDue (Requeued name queue) s = Unit {0}
IsDue (Left connection) s = is_client s.connections connection ≡ true
IsDue (Becoming connection rules) s = is_client s.connections connection ≡ true
