-- What an event brings, and what it brings over the bus of one thread.
use Rattle.std.specs.Prelude.{◌≡◌, Bool, true, List}
use Rattle.seq_bus_core.specs.Histories.{History}
use Rattle.bus_view.specs.declared.view.BusView.{Ghosts as BusView}
use Rattle.router_core.specs.declared.action.Action.{Action}
use Rattle.router_core.specs.declared.event.Event.{Event}
use Rattle.router_core.specs.declared.gate.Gate.{Ghosts as Gate}
use Rattle.router_core.specs.Acts.{IsGranted, IsServed, State}
use Rattle.router_core.specs.Deeds.{Deed, GatedCall}
use Rattle.router_core.specs.Events.{occasion_of}
use Rattle.router_core.specs.OneThread.{IsEffect, Rest}
use Rattle.router.specs.NextKeys.{HasNextKey}

-- what an engine keeps between events, but for its gate and the key of the next connection
abbrev pub rest_in : {G : Type 0} → State G → Rest
rest_in s = record { standing = s.standing; view = s.view }

-- The event is served for some answers that the bus may give, and leaves the next key. Where nobody else makes changes of the bus and nothing
-- is refused, what it brings is a function of it, but for that key: over the bus of one thread it brings nothing else.
pub record IsServedWell {N G : Type 0} (told : N → History) (passes : G → GatedCall → G → Type 0) (alone : Bool) (before : State G) (event : Event N) (actions : List (Action N)) (after : State G) : Type 0 where
  pub served : IsServed told passes alone before event actions after
  pub key : HasNextKey before event after
  pub one_thread : alone ≡ true → IsGranted served.asked → (deeds : List Deed) (end : Rest) → IsEffect (rest_in before) (occasion_of told event) deeds end →
      (served.deeds ≡ deeds) × (rest_in after ≡ end)

-- the same by a view and a gate
abbrev pub IsServedWellBy : {V N R G : Type 0} → BusView V N R → Gate G → State G → Event N → List (Action N) → State G → Type 0
IsServedWellBy view gate before event actions after = IsServedWell view.told gate.passes view.alone before event actions after
