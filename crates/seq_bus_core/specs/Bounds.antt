-- How much a change is told at most.
use Rattle.std.specs.Prelude.{◌≤◌, length}
use Rattle.seq_bus_core.specs.declared.limits.TheConstants.{MAX_SIGNALS, MAX_TICKETS}
use Rattle.seq_bus_core.specs.declared.outcome.Outcome.{Outcome}

-- It settles no more tickets than can wait, and brings no more signals than the names of one connection can.
pub record IsBounded (outcome : Outcome) : Type 0 where
  pub tickets : length outcome.tickets ≤ MAX_TICKETS
  pub signals : length outcome.signals ≤ MAX_SIGNALS
