-- The history of a bus with one seat.
use Rattle.std.proofs.Common.{◌≡◌, ℕ, ◌+◌, List, [], ◌∷◌, ◌++◌, length, refl, sym, ap, ◌∙◌, subst, suc}
use Rattle.std.specs.List.{AllByRecursion}
use Rattle.names.specs.Texts.{Text}
use Rattle.owner_queues.specs.declared.request.Profile.{Profile}
use Rattle.seq_bus_core.specs.Bounds.{IsBounded}
use Rattle.seq_bus_core.specs.BusState.{BusState}
use Rattle.seq_bus_core.specs.Batches.{entries_of, outcomes_of}
use Rattle.seq_bus_core.specs.Consistency.{IsConsistent, IsWithinLimits}
use Rattle.seq_bus_core.specs.Histories.{History, opening, numbers_of}
use Rattle.seq_bus_core.specs.Steps.{step}
use Rattle.seq_bus_core.specs.Tickets.{WholeBus, bus_step, bus_after}
use Rattle.seq_bus_core.specs.declared.change.Change.{Change}
use Rattle.seq_bus_core.specs.declared.entry.Entry.{Entry}
use Rattle.seq_bus_core.specs.declared.outcome.Outcome.{Outcome}
use Rattle.seq_bus_core.proofs.ConsistencyLaws.{buses_are_consistent}
use Rattle.seq_bus_core.proofs.Extending.{after_more, legal_more}
use Rattle.seq_bus_core.proofs.LimitLaws.{steps_keep_limits, buses_are_within_limits}
use Rattle.activation.proofs.Bounds.{bounded}
use Rattle.activation.specs.Holdings.{Calls, IsHolding}
use Rattle.registry.specs.PreparedChanges.{state_along}
use Rattle.registry.proofs.Along.{entries_along}
use Rattle.registry.proofs.Openings.{opened_still}
use Rattle.settling.specs.Batches.{SettleAlong, bus_along}
use Rattle.settling.specs.Settlings.{Settling, SettlesAt}
use Rattle.settling.proofs.Along.{along_entries, bounded_along, limits_along}
use Rattle.seq_bus.specs.PlainBus.{AreOwnEntries, IsKept, opened_as}

-- ## Entries of one seat

all_more : (P : Entry → Type 0) (history more : History) → AllByRecursion P history → AllByRecursion P more → AllByRecursion P (history ++ more)
all_more P [] more all these = these
all_more P (x ∷ history) more all these = (all.0, all_more P history more all.1 these)

own_seats : (number : ℕ) (changes : List Change) → AllByRecursion (λ e. e.seat ≡ 1) (entries_of 1 number changes)
own_seats number [] = tt
own_seats number (change ∷ changes) = (refl, own_seats (number + 1) changes)

-- each entry has a number of the seat
pub count_numbers : (history : History) → AllByRecursion (λ e. e.seat ≡ 1) history → length (numbers_of 1 history) ≡ length history
count_numbers [] own = refl
count_numbers (e ∷ history) own = rw own.0 (ap suc (count_numbers history own.1))

-- a batch of its own more
pub own_more : (history : History) (number : ℕ) (changes : List Change) → AreOwnEntries history → number ≡ length history + 1 → AreOwnEntries (history ++ entries_of 1 number changes)
own_more history number changes own next = record {
  seats = all_more (λ e. e.seat ≡ 1) history (entries_of 1 number changes) own.seats (own_seats number changes);
  legal = legal_more history 1 number changes own.legal (next ∙ ap (λ n. n + 1) (sym (count_numbers history own.seats)));
}

-- ## A change that was absorbed

pub opened_after : (s t : BusState) (change : Change) → t ≡ (step s 1 change).0 → opened_as t ≡ opened_as s
opened_after s t change is = ap opened_as is ∙ ap (λ (o : BusState). record { state = o; waiting = [] }) (opened_still s 1 change)

-- the bus after it
pub change_made : (s t : BusState) (history : History) (number : ℕ) (change : Change) → t ≡ (step s 1 change).0 →
    bus_after (opened_as t) (history ++ record { seat = 1; number = number; change = change; left = 0 } ∷ []) ≡ (bus_step (bus_after (opened_as s) history) 1 change).0
change_made s t history number change is =
    let e : Entry = record { seat = 1; number = number; change = change; left = 0 } in
    ap (λ (w : WholeBus). bus_after w (history ++ e ∷ [])) (opened_after s t change is) ∙ after_more (opened_as s) history (e ∷ [])

-- what is kept of it
pub kept_more : (s t : BusState) (calls later : Calls) (history : History) (number : ℕ) (change : Change) → IsKept s calls history → t ≡ (step s 1 change).0 → number ≡ length history + 1 →
    IsHolding (bus_step (bus_after (opened_as s) history) 1 change).0 later → IsKept t later (history ++ record { seat = 1; number = number; change = change; left = 0 } ∷ [])
kept_more s t calls later history number change kept is count holding =
    let made = change_made s t history number change is in
    record {
      now = ap (λ (w : WholeBus). w.state) made ∙ ap (λ (now : BusState). (step now 1 change).0) kept.now ∙ sym is;
      within_limits = subst IsWithinLimits (sym is) (steps_keep_limits s 1 change (subst IsConsistent kept.now kept.holding.consistent) kept.within_limits);
      holding = rw made holding;
      own = own_more history number (change ∷ []) kept.own count;
    }

-- the calls of a bus that was just opened
pub opened_kept : (s : BusState) (profile : Profile) (routers : ℕ) (services : List Text) → s ≡ opening profile routers services → IsKept s [] []
opened_kept s profile routers services is = rw is (record {
  now = refl;
  within_limits = buses_are_within_limits profile routers services [];
  holding = record { consistent = buses_are_consistent profile routers services []; carried = refl; tickets = tt; started = tt; rise = tt; given = tt };
  own = record { seats = tt; legal = record { numbered = λ seat. refl; whole = refl } };
})

-- what settles a change on the registry settles it after the history
pub settles_after : (s : BusState) (calls : Calls) (history : History) (change : Change) (settling : Settling) → IsKept s calls history → SettlesAt s 1 change settling → SettlesAt (bus_after (opened_as s) history).state 1 change settling
settles_after s calls history change settling kept settles = subst (λ (t : BusState). SettlesAt t 1 change settling) (sym kept.now) settles

-- what it is told is bounded
pub bounded_at : (s : BusState) (calls : Calls) (history : History) (change : Change) → IsKept s calls history → IsBounded (bus_step (bus_after (opened_as s) history) 1 change).1
bounded_at s calls history change kept = bounded (bus_after (opened_as s) history) 1 change (subst IsWithinLimits (sym kept.now) kept.within_limits)

-- ## A batch that was absorbed

pub opened_along : (s : BusState) (changes : List Change) → opened_as (state_along s 1 changes) ≡ opened_as s
opened_along s [] = refl
opened_along s (change ∷ changes) =
    opened_along (step s 1 change).0 changes ∙ ap (λ (o : BusState). record { state = o; waiting = [] }) (opened_still s 1 change)

-- the bus after it
batch_made : (s t : BusState) (history : History) (number : ℕ) (changes : List Change) → t ≡ state_along s 1 changes →
    bus_after (opened_as t) (history ++ entries_of 1 number changes) ≡ bus_along (bus_after (opened_as s) history) 1 changes
batch_made s t history number changes is =
    ap (λ (w : WholeBus). bus_after w (history ++ entries_of 1 number changes)) (ap opened_as is ∙ opened_along s changes)
    ∙ after_more (opened_as s) history (entries_of 1 number changes) ∙ along_entries (bus_after (opened_as s) history) 1 number changes

-- what is kept of it
pub kept_along : (s t : BusState) (calls later : Calls) (history : History) (number : ℕ) (changes : List Change) → IsKept s calls history → t ≡ state_along s 1 changes → number ≡ length history + 1 →
    IsHolding (bus_along (bus_after (opened_as s) history) 1 changes) later → IsKept t later (history ++ entries_of 1 number changes)
kept_along s t calls later history number changes kept is count holding =
    let b = bus_after (opened_as s) history in
    let made = batch_made s t history number changes is in
    let now : (bus_along b 1 changes).state ≡ t = ap (λ (w : WholeBus). w.state) (sym (along_entries b 1 number changes)) ∙ entries_along b 1 number changes ∙ ap (λ (u : BusState). state_along u 1 changes) kept.now ∙ sym is in
    let within : IsWithinLimits b.state = subst IsWithinLimits (sym kept.now) kept.within_limits in
    record {
      now = ap (λ (w : WholeBus). w.state) made ∙ now;
      within_limits = subst IsWithinLimits now (limits_along b 1 changes kept.holding.consistent within);
      holding = rw made holding;
      own = own_more history number changes kept.own count;
    }

-- what settles it settles it after the history
pub along_history : (s : BusState) (calls : Calls) (history : History) (changes : List Change) (settlings : List Settling) → IsKept s calls history → SettleAlong s 1 changes settlings → SettleAlong (bus_after (opened_as s) history).state 1 changes settlings
along_history s calls history changes settlings kept along = subst (λ (t : BusState). SettleAlong t 1 changes settlings) (sym kept.now) along

-- what each of its changes is told is bounded
pub bounded_along_history : (s : BusState) (calls : Calls) (history : History) (changes : List Change) (outcomes : List Outcome) → IsKept s calls history → outcomes ≡ outcomes_of (bus_after (opened_as s) history) 1 changes → AllByRecursion IsBounded outcomes
bounded_along_history s calls history changes outcomes kept told =
    subst (AllByRecursion IsBounded) (sym told)
    (bounded_along (bus_after (opened_as s) history) 1 changes kept.holding.consistent (subst IsWithinLimits (sym kept.now) kept.within_limits))
