-- How the program serves a stream.
use Rattle.std.specs.Prelude.{ℕ, false, Option, None, List, [], Result}
use Rattle.owner_queues.specs.declared.request.Profile.TheVariants.{Two}
use Rattle.seq_bus_core.specs.Histories.{History}
use Rattle.seq_bus_core.specs.Tickets.{opening_bus}
use Rattle.bus_view.specs.Views.{Knowledge}
use Rattle.router_core.specs.declared.gate.Gate.{Ghosts as Gate}
use Rattle.busd_core.specs.declared.run_fault.RunFault.{RunFault}
use Rattle.busd_core.specs.Readings.{Reading}
use Rattle.busd_core.specs.Sessions.{RunsAnew}

-- what seat 1 of a registry that goes by this number, has one router and no services, knows before anything is done
abbrev pub first_knowledge : ℕ → Knowledge
first_knowledge registry = record { registry = registry; opening = opening_bus Two 1 []; seat = 1; seen = []; made = 0; last = 0; held = None }

-- A new engine serves the stream over a desk that knows this; others may change the bus.
abbrev pub IsStreamServed : {G : Type 0} → Gate G → Knowledge → (read_old read_new : Option (List ℕ)) (noted_old noted_new : Option (List Reading)) (wrote_old wrote_new : Option (List ℕ))
    → Result (Unit {0}) RunFault → Type 0
IsStreamServed gate knows read_old read_new noted_old noted_new wrote_old wrote_new result =
    RunsAnew (λ (told : History). told) gate.passes false knows read_old read_new noted_old noted_new wrote_old wrote_new result
