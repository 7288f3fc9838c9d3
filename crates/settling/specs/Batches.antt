-- What settles the changes of a batch.
use Rattle.std.specs.Prelude.{◌≡◌, ℕ, List, [], ◌∷◌}
use Rattle.activation.specs.Holdings.{Calls, IsHolding}
use Rattle.registry.specs.PreparedChanges.{PreparedChange, ArePreparedFor, prepared_along}
use Rattle.seq_bus_core.specs.Batches.{outcomes_of}
use Rattle.seq_bus_core.specs.BusState.{BusState}
use Rattle.seq_bus_core.specs.Steps.{step}
use Rattle.seq_bus_core.specs.Tickets.{WholeBus, bus_step}
use Rattle.seq_bus_core.specs.declared.change.Change.{Change}
use Rattle.seq_bus_core.specs.declared.outcome.Outcome.{Outcome}
use Rattle.settling.specs.Settlings.{Settling, SettlesAt}

-- each settles its change in the state that those before it leave
abbrev pub SettleAlong : BusState → ℕ → List Change → List Settling → Type 0
SettleAlong s seat [] [] = Unit {0}
SettleAlong s seat [] (settling ∷ settlings) = ⊥
SettleAlong s seat (change ∷ changes) [] = ⊥
SettleAlong s seat (change ∷ changes) (settling ∷ settlings) = SettlesAt s seat change settling × SettleAlong (step s seat change).0 seat changes settlings

-- These are taken out of what was prepared for a batch: they settle it wherever it was prepared, and what is left is prepared for it.
abbrev pub AreTaken : List Change → List PreparedChange → List PreparedChange → List Settling → Type 0
AreTaken changes before after settlings = (s : BusState) (seat : ℕ) → before ≡ prepared_along s seat changes →
    ArePreparedFor seat changes after × SettleAlong s seat changes settlings

-- the bus after the changes of a seat
abbrev pub bus_along : WholeBus → ℕ → List Change → WholeBus
bus_along b seat [] = b
bus_along b seat (change ∷ changes) = bus_along (bus_step b seat change).0 seat changes

-- some bus holds these calls, and they settle the changes there
abbrev pub IsSomeBusAlong : List Change → List Settling → Calls → Type 0
IsSomeBusAlong changes settlings calls = (b : WholeBus) × ((seat : ℕ) × (IsHolding b calls × SettleAlong b.state seat changes settlings))

-- Whatever bus holds the calls before the changes, and has them settled by these, holds those after them; and the changes are told
-- what that bus says.
abbrev pub AreSettled : List Change → List Settling → Calls → Calls → List Outcome → Type 0
AreSettled changes settlings before after outcomes = (b : WholeBus) (seat : ℕ) → IsHolding b before → SettleAlong b.state seat changes settlings →
    IsHolding (bus_along b seat changes) after × (outcomes ≡ outcomes_of b seat changes)

-- Those that are done are settled: these calls are held then, this settles those that are left, and this was told.
pub record AreSettledTo (b : WholeBus) (seat : ℕ) (done left : List Change) (calls : Calls) (settlings : List Settling) (outcomes : List Outcome) : Type 0 where
  pub holding : IsHolding (bus_along b seat done) calls
  pub along : SettleAlong (bus_along b seat done).state seat left settlings
  pub told : outcomes ≡ outcomes_of b seat done
