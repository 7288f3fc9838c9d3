-- What a registrar keeps of the calls that wait, and of its own copy of the bus.
use Rattle.std.specs.Prelude.{◌≡◌, Bool, false}
use Rattle.activation.specs.Holdings.{Calls, IsHolding}
use Rattle.seq_bus_core.specs.BusState.{BusState}
use Rattle.seq_bus_core.specs.Consistency.{IsWithinLimits}
use Rattle.seq_bus_core.specs.Histories.{History}
use Rattle.seq_bus_core.specs.Tickets.{WholeBus, bus_after}
use Rattle.registry_snapshots_core.specs.Copies.{SnapView}

-- the bus after this history holds these calls, and is within its limits
pub record AreCallsAfter (opening : WholeBus) (history : History) (calls : Calls) : Type 0 where
  pub holding : IsHolding (bus_after opening history) calls
  pub within_limits : IsWithinLimits (bus_after opening history).state

-- With these copies, of which one is shown: the calls that wait are those of the bus that is shown, and the third copy is that bus
-- too, unless the copies are spent.
pub record KeepsUp (opening : WholeBus) (copies : SnapView × Bool) (third : BusState) (calls : Calls) : Type 0 where
  pub waiting : AreCallsAfter opening copies.0.prefix.log calls
  pub same : copies.1 ≡ false → third ≡ copies.0.bus
