-- The signals of the names that a connection gives up.
use Rattle.std.specs.Prelude.{ℕ, Some, List, [], ◌∷◌, map, if◌then◌else◌}
use Rattle.owner_queues.specs.Queues.{queue_head}
use Rattle.seq_bus_core.specs.BusState.{BusState, OwnedName}
use Rattle.seq_bus_core.specs.Steps.{acquired, addressed, is_owner, next_owner, owner_signals}
use Rattle.seq_bus_core.specs.declared.signal.AddressedSignal.{AddressedSignal}
use Rattle.seq_bus_core.specs.declared.signal.BusSignal.{BusSignal}
use Rattle.seq_bus_core.specs.declared.signal.BusSignal.TheVariants.{NameOwnerChanged}
use Rattle.registry.specs.declared.leave.Departure.{Departure}
use Rattle.registry.specs.declared.leave.Departure.TheVariants.{Leaves, BecomesMonitor}

-- Who leaves is told nothing.
abbrev pub signals_of_name : Departure → ℕ → OwnedName → List BusSignal
signals_of_name Leaves number n =
    NameOwnerChanged n.name (Some number) (next_owner number n) ∷ acquired n.name (next_owner number n)
signals_of_name BecomesMonitor number n = owner_signals n.name (Some number) (next_owner number n)

-- the signals of a name, where the connection owns it
abbrev pub told_of_name : BusState → Departure → ℕ → OwnedName → List AddressedSignal
told_of_name s departure number n =
    if is_owner (queue_head n.queue) (Some number) then map (addressed s) (signals_of_name departure number n) else []
