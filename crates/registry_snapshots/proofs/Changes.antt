-- What a seat has seen after its change, and which calls wait then.
use Rattle.std.proofs.Common.{◌≡◌, ℕ, ◌+◌, List, [], ◌∷◌, ◌++◌, length, refl, ap, sym, ◌∙◌, subst}
use Rattle.std.specs.List.{AllByRecursion, range_with_len}
use Rattle.logbook.specs.Pages.{Book}
use Rattle.names.specs.Texts.{Text}
use Rattle.owner_queues.specs.declared.request.Profile.{Profile}
use Rattle.activation.specs.Holdings.{Calls, IsHolding}
use Rattle.activation.proofs.Bounds.{bounded}
use Rattle.seq_bus_core.specs.Batches.{entries_of, outcomes_of}
use Rattle.seq_bus_core.specs.Bounds.{IsBounded}
use Rattle.seq_bus_core.specs.BusState.{BusState}
use Rattle.seq_bus_core.specs.Changes.{as_seen}
use Rattle.seq_bus_core.specs.Consistency.{IsWithinLimits}
use Rattle.seq_bus_core.specs.Histories.{History, HasJust, IsLegal, Begins, entry_alone, numbers_of}
use Rattle.seq_bus_core.specs.Tickets.{WholeBus, bus_step, bus_after, opening_bus}
use Rattle.seq_bus_core.specs.declared.change.Change.{Change}
use Rattle.seq_bus_core.specs.declared.entry.Entry.{Entry}
use Rattle.seq_bus_core.specs.declared.outcome.Outcome.{Outcome}
use Rattle.seq_bus_core.proofs.ConsistencyLaws.{buses_are_consistent}
use Rattle.seq_bus_core.proofs.Extending.{after_more, just_more, legal_more}
use Rattle.seq_bus_core.proofs.LimitLaws.{buses_are_within_limits, steps_keep_limits}
use Rattle.registry.specs.PreparedChanges.{PreparedChange, ArePreparedFor}
use Rattle.registry_snapshots_core.specs.Copies.{PrefixView, SnapView, IsSnapOf, absorbed, absorbed_all, prefix_of}
use Rattle.registry_snapshots_core.proofs.Steps.{next_legal, snap_next, snap_next_all}
use Rattle.bus_view.specs.Views.{having_made}
use Rattle.registry_snapshots.specs.Seats.{knowledge_of, seat_at, AreSeatChanged, IsSeatChanged}
use Rattle.registry_snapshots.specs.Settlings.{AreCallsAfter}
use Rattle.settling.specs.Batches.{SettleAlong, bus_along}
use Rattle.settling.specs.Settlings.{Settling, SettlesAt}
use Rattle.settling.proofs.Along.{along_entries, bounded_along, limits_along}

-- The copy that is shown once an entry is published, where `prefix` was all of the history and `next` goes on with the entry.
pub shown_next : (book : Book) (opening : WholeBus) (s : SnapView) (prefix : PrefixView) (e : Entry) (p : PreparedChange) (next copy : PrefixView) → IsSnapOf book opening s → prefix ≡ s.prefix → e.left ≡ 0
    → e.number ≡ length (numbers_of e.seat prefix.log) + 1 → p.seat ≡ e.seat → p.change ≡ as_seen e.change → next ≡ prefix_of prefix.book (prefix.log ++ e ∷ []) → copy ≡ next → IsSnapOf book opening (absorbed s e.seat e.number p copy)
shown_next book opening s prefix e p next copy kept same alone number seat change next_is copy_is =
    snap_next book opening s e p copy kept alone (number ∙ ap (λ (f : PrefixView). length (numbers_of e.seat f.log) + 1) same) seat change
    (copy_is ∙ next_is ∙ ap (λ (f : PrefixView). prefix_of f.book (f.log ++ e ∷ [])) same ∙ ap (λ (b : Book). prefix_of b (s.prefix.log ++ e ∷ [])) kept.book_is)

-- The same once the entries of a batch are published.
pub shown_next_all : (book : Book) (opening : WholeBus) (s : SnapView) (prefix : PrefixView) (seat first number : ℕ) (changes : List Change) (prepared : List PreparedChange) (next copy : PrefixView) → IsSnapOf book opening s
    → prefix ≡ s.prefix → number ≡ length (numbers_of seat prefix.log) + length changes → ArePreparedFor seat changes prepared → next ≡ prefix_of prefix.book (prefix.log ++ entries_of seat first changes) → copy ≡ next
    → IsSnapOf book opening (absorbed_all s seat number prepared copy)
shown_next_all book opening s prefix seat first number changes prepared next copy kept same count all next_is copy_is =
    snap_next_all book opening s seat first number changes prepared copy kept (count ∙ ap (λ (f : PrefixView). length (numbers_of seat f.log) + length changes) same) all
    (copy_is ∙ next_is ∙ ap (λ (f : PrefixView). prefix_of f.book (f.log ++ entries_of seat first changes)) same ∙ ap (λ (b : Book). prefix_of b (s.prefix.log ++ entries_of seat first changes)) kept.book_is)

-- what the seat has seen after its change
pub changed : (book : Book) (opening : WholeBus) (known log next : History) (seat made : ℕ) (change : Change) (outcome : Outcome) → Begins known log → IsLegal log → made ≡ length (numbers_of seat log)
    → outcome ≡ (bus_step (bus_after opening log) seat change).1 → next ≡ log ++ entry_alone seat (made + 1) change ∷ [] → IsSeatChanged book opening seat known made change outcome next
changed book opening known log next seat made change outcome begun legal made_is told is last held = record {
  point = log;
  reached = record { begun = begun; same = λ e. absurd (cc e) };
  told = told;
  added = ap (having_made (knowledge_of book opening (seat_at seat known made last held)) 1) is;
  legal = subst IsLegal (sym is) (next_legal log (entry_alone seat (made + 1) change) legal refl (ap (λ n. n + 1) made_is));
  own = subst (HasJust seat (made + 1)) (sym is) (just_more seat made log (change ∷ []) (legal.numbered seat ∙ ap (range_with_len 1) (sym made_is)));
}

-- and after a batch
pub all_changed : (book : Book) (opening : WholeBus) (known log next : History) (seat made : ℕ) (changes : List Change) (outcomes : List Outcome) → Begins known log → IsLegal log → made ≡ length (numbers_of seat log)
    → outcomes ≡ outcomes_of (bus_after opening log) seat changes → next ≡ log ++ entries_of seat (made + 1) changes → AreSeatChanged book opening seat known made changes outcomes next
all_changed book opening known log next seat made changes outcomes begun legal made_is told is last held = record {
  point = log;
  reached = record { begun = begun; same = λ e. absurd (cc e) };
  told = told;
  added = ap (having_made (knowledge_of book opening (seat_at seat known made last held)) (length changes)) is;
  legal = subst IsLegal (sym is) (legal_more log seat (made + 1) changes legal (ap (λ n. n + 1) made_is));
  own = subst (HasJust seat (made + length changes)) (sym is) (just_more seat made log changes (legal.numbered seat ∙ ap (range_with_len 1) (sym made_is)));
}

-- no call waits on a bus that was just opened
pub no_calls : (profile : Profile) (routers : ℕ) (services : List Text) → AreCallsAfter (opening_bus profile routers services) [] []
no_calls profile routers services = record {
  holding = record { consistent = buses_are_consistent profile routers services []; carried = refl; tickets = tt; started = tt; rise = tt; given = tt };
  within_limits = buses_are_within_limits profile routers services [];
}

-- what settles a change on a copy settles it after the copy's history
pub settles_after : (book : Book) (opening : WholeBus) (s : SnapView) (t : BusState) (seat : ℕ) (change : Change) (settling : Settling) → IsSnapOf book opening s → t ≡ s.bus → SettlesAt t seat change settling
    → SettlesAt (bus_after opening s.prefix.log).state seat change settling
settles_after book opening s t seat change settling kept same settles = subst (λ (b : BusState). SettlesAt b seat change settling) (same ∙ kept.bus_is) settles

-- and what settles a batch there
pub settle_after : (book : Book) (opening : WholeBus) (s : SnapView) (t : BusState) (seat : ℕ) (changes : List Change) (settlings : List Settling) → IsSnapOf book opening s → t ≡ s.bus → SettleAlong t seat changes settlings
    → SettleAlong (bus_after opening s.prefix.log).state seat changes settlings
settle_after book opening s t seat changes settlings kept same settle = subst (λ (b : BusState). SettleAlong b seat changes settlings) (same ∙ kept.bus_is) settle

-- the calls that wait after one change more
pub calls_more : (opening : WholeBus) (log next : History) (seat number : ℕ) (change : Change) (before after : Calls) → AreCallsAfter opening log before → IsHolding (bus_step (bus_after opening log) seat change).0 after
    → next ≡ log ++ entry_alone seat number change ∷ [] → AreCallsAfter opening next after
calls_more opening log next seat number change before after calls holding is =
    let now : bus_after opening next ≡ (bus_step (bus_after opening log) seat change).0 = ap (bus_after opening) is ∙ after_more opening log (entry_alone seat number change ∷ []) in
    record {
      holding = subst (λ (b : WholeBus). IsHolding b after) (sym now) holding;
      within_limits = subst (λ (b : WholeBus). IsWithinLimits b.state) (sym now) (steps_keep_limits (bus_after opening log).state seat change calls.holding.consistent calls.within_limits);
    }

-- and after a batch
pub calls_along : (opening : WholeBus) (log next : History) (seat first : ℕ) (changes : List Change) (before after : Calls) → AreCallsAfter opening log before → IsHolding (bus_along (bus_after opening log) seat changes) after
    → next ≡ log ++ entries_of seat first changes → AreCallsAfter opening next after
calls_along opening log next seat first changes before after calls holding is =
    let b = bus_after opening log in
    let now : bus_after opening next ≡ bus_along b seat changes = ap (bus_after opening) is ∙ after_more opening log (entries_of seat first changes) ∙ along_entries b seat first changes in
    record {
      holding = subst (λ (w : WholeBus). IsHolding w after) (sym now) holding;
      within_limits = subst (λ (w : WholeBus). IsWithinLimits w.state) (sym now) (limits_along b seat changes calls.holding.consistent calls.within_limits);
    }

-- what a change is told is bounded
pub bounded_told : (opening : WholeBus) (log : History) (seat : ℕ) (change : Change) (calls : Calls) (outcome : Outcome) → AreCallsAfter opening log calls → outcome ≡ (bus_step (bus_after opening log) seat change).1 → IsBounded outcome
bounded_told opening log seat change calls outcome waiting told = subst IsBounded (sym told) (bounded (bus_after opening log) seat change waiting.within_limits)

-- and each of a batch
pub bounded_told_all : (opening : WholeBus) (log : History) (seat : ℕ) (changes : List Change) (calls : Calls) (outcomes : List Outcome) → AreCallsAfter opening log calls → outcomes ≡ outcomes_of (bus_after opening log) seat changes
    → AllByRecursion IsBounded outcomes
bounded_told_all opening log seat changes calls outcomes waiting told =
    subst (AllByRecursion IsBounded) (sym told) (bounded_along (bus_after opening log) seat changes waiting.holding.consistent waiting.within_limits)
