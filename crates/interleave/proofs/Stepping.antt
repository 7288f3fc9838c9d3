-- What a change makes of a bus in tables.
use Rattle.std.proofs.Common.{◌≡◌, ℕ, List, [], refl, sym, subst}
use Rattle.names.specs.Texts.{Text}
use Rattle.owner_queues.specs.declared.request.Profile.{Profile}
use Rattle.seq_bus_core.specs.BusState.{BusState}
use Rattle.seq_bus_core.specs.Histories.{opening}
use Rattle.seq_bus_core.specs.Steps.{step}
use Rattle.seq_bus_core.specs.Tickets.{bus_step}
use Rattle.seq_bus_core.specs.declared.change.Change.{Change}
use Rattle.seq_bus_core.proofs.ConsistencyLaws.{buses_are_consistent}
use Rattle.activation.specs.Holdings.{Calls, IsHolding}
use Rattle.interleave.specs.Stepping.{whole_of}

-- a bus that was just opened holds no calls
pub opened_holding : (s : BusState) (profile : Profile) (routers : ℕ) (services : List Text) → s ≡ opening profile routers services → IsHolding (whole_of s []) []
opened_holding s profile routers services is = subst (λ (t : BusState). IsHolding (whole_of t []) []) (sym is) (record {
  consistent = buses_are_consistent profile routers services [];
  carried = refl;
  tickets = tt;
  started = tt;
  rise = tt;
  given = tt;
})

-- the bus after a change
pub stepped : (s t : BusState) (calls later : Calls) (seat : ℕ) (change : Change) → t ≡ (step s seat change).0 → IsHolding (bus_step (whole_of s calls) seat change).0 later →
    whole_of t later ≡ (bus_step (whole_of s calls) seat change).0
stepped s t calls later seat change is holding = λ i. record { state = is i; waiting = holding.carried i }
