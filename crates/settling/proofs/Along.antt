-- The changes of a batch, one after the other.
use Rattle.std.proofs.Common.{◌≡◌, ℕ, suc, ◌+◌, List, [], ◌∷◌, ◌++◌, length, drop, get_or, refl, ap, sym, ◌∙◌, subst}
use Rattle.std.specs.List.{AllByRecursion}
use Rattle.activation.specs.Holdings.{Calls, IsHolding}
use Rattle.activation.proofs.Bounds.{bounded}
use Rattle.registry.specs.PreparedChanges.{ArePreparedFor, IsPreparedFor, PreparedChange, prepared_along, prepared_on, state_along}
use Rattle.registry.proofs.Along.{prepared_for_more, state_more}
use Rattle.seq_bus_core.specs.Batches.{entries_of, outcomes_of}
use Rattle.seq_bus_core.specs.Bounds.{IsBounded}
use Rattle.seq_bus_core.specs.BusState.{BusState}
use Rattle.seq_bus_core.specs.Consistency.{IsConsistent, IsWithinLimits}
use Rattle.seq_bus_core.specs.Steps.{step}
use Rattle.seq_bus_core.specs.Tickets.{WholeBus, bus_step, bus_after}
use Rattle.seq_bus_core.specs.declared.change.Change.{Change}
use Rattle.seq_bus_core.specs.declared.outcome.Outcome.{Outcome}
use Rattle.seq_bus_core.proofs.ConsistencyLaws.{steps_keep_consistency}
use Rattle.seq_bus_core.proofs.LimitLaws.{steps_keep_limits}
use Rattle.settling.specs.Batches.{AreSettledTo, SettleAlong, bus_along}
use Rattle.settling.specs.Settlings.{IsSettled, Settles, Settling, SettlesAt}

-- ## One change more

pub settle_more : (s : BusState) (seat : ℕ) (changes : List Change) (change : Change) (settlings : List Settling) (x : Settling) → SettleAlong s seat changes settlings → SettlesAt (state_along s seat changes) seat change x
    → SettleAlong s seat (changes ++ change ∷ []) (settlings ++ x ∷ [])
settle_more s seat [] change [] x all one = (one, tt)
settle_more s seat [] change (y ∷ settlings) x all one = absurd all
settle_more s seat (first ∷ changes) change [] x all one = absurd all
settle_more s seat (first ∷ changes) change (y ∷ settlings) x all one = (all.0, settle_more (step s seat first).0 seat changes change settlings x all.1 one)

pub bus_more : (b : WholeBus) (seat : ℕ) (changes : List Change) (change : Change) → bus_along b seat (changes ++ change ∷ []) ≡ (bus_step (bus_along b seat changes) seat change).0
bus_more b seat [] change = refl
bus_more b seat (first ∷ changes) change = bus_more (bus_step b seat first).0 seat changes change

pub told_more : (b : WholeBus) (seat : ℕ) (changes : List Change) (change : Change) → outcomes_of b seat (changes ++ change ∷ []) ≡ outcomes_of b seat changes ++ (bus_step (bus_along b seat changes) seat change).1 ∷ []
told_more b seat [] change = refl
told_more b seat (first ∷ changes) change = ap (λ rest. (bus_step b seat first).1 ∷ rest) (told_more (bus_step b seat first).0 seat changes change)

-- one settled more
pub settled_more : (b : WholeBus) (seat : ℕ) (done : List Change) (change : Change) (left : List Change) (before after : Calls) (x : Settling) (later : List Settling) (outcomes : List Outcome) (outcome : Outcome)
    → AreSettledTo b seat done (change ∷ left) before (x ∷ later) outcomes → IsSettled change x before after outcome → AreSettledTo b seat (done ++ change ∷ []) left after later (outcomes ++ outcome ∷ [])
settled_more b seat done change left before after x later outcomes outcome so_far settled =
    let now = bus_along b seat done in
    let one = settled now seat so_far.holding so_far.along.0 in
    let grown = bus_more b seat done change in
    record {
      holding = subst (λ (w : WholeBus). IsHolding w after) (sym grown) one.0;
      along = subst (λ (w : WholeBus). SettleAlong w.state seat left later) (sym grown) so_far.along.1;
      told = (λ k. so_far.told k ++ one.1 k ∷ []) ∙ sym (told_more b seat done change);
    }

-- ## What is taken out of a batch

pub as_many_along : (s : BusState) (seat : ℕ) (changes : List Change) → length (prepared_along s seat changes) ≡ length changes
as_many_along s seat [] = refl
as_many_along s seat (change ∷ changes) = ap suc (as_many_along (step s seat change).0 seat changes)

-- These are taken out of what was prepared for the changes that are done, and it is prepared for them yet; the rest is as it was.
pub record AreTakenTo (s : BusState) (seat : ℕ) (done left : List Change) (first rest : List PreparedChange) (settlings : List Settling) : Type 0 where
  pub prepared : ArePreparedFor seat done first
  pub along : rest ≡ prepared_along (state_along s seat done) seat left
  pub settles : SettleAlong s seat done settlings

pub taken_more : (s : BusState) (seat : ℕ) (done : List Change) (change : Change) (left : List Change) (first : List PreparedChange) (p q : PreparedChange) (later : List PreparedChange) (settlings : List Settling) (x : Settling)
    → AreTakenTo s seat done (change ∷ left) first (p ∷ later) settlings → q.seat ≡ p.seat → q.change ≡ p.change → Settles p change x → AreTakenTo s seat (done ++ change ∷ []) left (first ++ q ∷ []) later (settlings ++ x ∷ [])
taken_more s seat done change left first p q later settlings x so_far same_seat same_change settles =
    let now : BusState = state_along s seat done in
    let here : p ≡ prepared_on now seat change = ap (λ (ps : List PreparedChange). get_or ps 0 p) so_far.along in
    let one : IsPreparedFor seat change q = record { seat_is = same_seat ∙ ap (λ (r : PreparedChange). r.seat) here; change_is = same_change ∙ ap (λ (r : PreparedChange). r.change) here } in
    record {
      prepared = prepared_for_more seat done change first q so_far.prepared one;
      along = ap (λ (ps : List PreparedChange). drop 1 ps) so_far.along ∙ ap (λ (t : BusState). prepared_along t seat left) (sym (state_more s seat done change));
      settles = settle_more s seat done change settlings x so_far.settles (settles now seat here);
    }

-- ## Batches in a history

-- the bus after the entries of a batch
pub along_entries : (b : WholeBus) (seat number : ℕ) (changes : List Change) → bus_after b (entries_of seat number changes) ≡ bus_along b seat changes
along_entries b seat number [] = refl
along_entries b seat number (change ∷ changes) = along_entries (bus_step b seat change).0 seat (number + 1) changes

pub consistent_along : (b : WholeBus) (seat : ℕ) (changes : List Change) → IsConsistent b.state → IsConsistent (bus_along b seat changes).state
consistent_along b seat [] consistent = consistent
consistent_along b seat (change ∷ changes) consistent = consistent_along (bus_step b seat change).0 seat changes (steps_keep_consistency b.state seat change consistent)

pub limits_along : (b : WholeBus) (seat : ℕ) (changes : List Change) → IsConsistent b.state → IsWithinLimits b.state → IsWithinLimits (bus_along b seat changes).state
limits_along b seat [] consistent within = within
limits_along b seat (change ∷ changes) consistent within =
    limits_along (bus_step b seat change).0 seat changes (steps_keep_consistency b.state seat change consistent) (steps_keep_limits b.state seat change consistent within)

-- what each change is told is bounded
pub bounded_along : (b : WholeBus) (seat : ℕ) (changes : List Change) → IsConsistent b.state → IsWithinLimits b.state → AllByRecursion IsBounded (outcomes_of b seat changes)
bounded_along b seat [] consistent within = tt
bounded_along b seat (change ∷ changes) consistent within = (
  bounded b seat change within,
  bounded_along (bus_step b seat change).0 seat changes (steps_keep_consistency b.state seat change consistent) (steps_keep_limits b.state seat change consistent within),
)
