-- BecomeMonitor. (D-Bus Specification: "org.freedesktop.DBus.Monitoring.BecomeMonitor")
use Rattle.std.specs.Prelude.{ℕ, not, Bool, false, if◌then◌else◌}
use Rattle.std.specs.Option.{option_map_or}
use Rattle.seq_bus_core.specs.BusState.{BusState, connection_of, is_client}
use Rattle.seq_bus_core.specs.declared.outcome.Reply.{Reply}
use Rattle.seq_bus_core.specs.declared.outcome.Reply.TheVariants.{Gone, Done, AccessDenied}

abbrev pub is_privileged : BusState → ℕ → Bool
is_privileged s number = option_map_or (λ c. c.privileged) (connection_of s number) false

abbrev pub reply_to_monitor : BusState → ℕ → Reply
reply_to_monitor s number =
    if not (is_client s.connections number) then Gone
    else if is_privileged s number then Done
    else AccessDenied
