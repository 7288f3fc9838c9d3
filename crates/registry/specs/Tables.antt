-- What the tables of the registry stand for.
use Rattle.std.specs.Prelude.{◌≤◌, length}
use Rattle.seq_bus_core.specs.BusState.{BusState}
use Rattle.seq_bus_core.specs.Consistency.{IsConsistent, IsWithinLimits}
use Rattle.seq_bus_core.specs.Histories.{max_routers, max_services}
use Rattle.registry.specs.declared.registry.Registry.TheInside.{Inside}

-- the state of the bus
abbrev pub state_of : Inside → BusState
state_of r = record {
  profile = r.profile;
  routers = r.routers;
  services = r.services;
  connections = r.connections;
  names = r.names;
  rules = r.rules;
  starts = r.starts;
  next_number = r.next_number;
  next_ticket = r.next_ticket;
  next_start = r.next_start;
}

pub record IsKept (r : Inside) : Type 0 where
  pub routed : 1 ≤ r.routers
  pub few_routers : r.routers ≤ max_routers
  pub consistent : IsConsistent (state_of r)
  pub within_limits : IsWithinLimits (state_of r)
  pub few_services : length r.services ≤ max_services
