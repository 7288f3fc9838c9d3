-- What the one knows who uses a plain bus.
use Rattle.std.proofs.Common.{◌≡◌, ◌+◌, ◌≤◌, true, List, [], ◌∷◌, ◌++◌, length, Some, refl, sym, ap, ◌∙◌, arith, inl, length-append}
use Rattle.std.specs.List.{AllByRecursion}
use mathlib.Core.List.{append-nil}
use Rattle.seq_bus_core.specs.Batches.{entries_of}
use Rattle.seq_bus_core.specs.Histories.{History, IsLegal, numbers_of}
use Rattle.seq_bus_core.specs.declared.change.Change.{Change}
use Rattle.seq_bus_core.specs.declared.entry.Entry.{Entry}
use Rattle.seq_bus_core.specs.declared.outcome.Outcome.{Outcome}
use Rattle.seq_bus_core.proofs.Extending.{entries_length}
use Rattle.seq_bus.proofs.HistoryLemmas.{count_numbers}
use Rattle.seq_bus.specs.PlainBus.{PlainBus, AreMade, IsMade}
use Rattle.bus_view.specs.Views.{Reaches, AreChanged, IsChanged, IsRead, IsUnread, IsNoted, having_made}
use Rattle.seq_bus.specs.PlainViews.{noted, knowledge_of}

noted_more : (history : History) (e : Entry) (more : History) → noted (history ++ e ∷ more) ≡ Some (history ++ e ∷ more)
noted_more [] e more = refl
noted_more (x ∷ history) e more = refl

there : (history : History) → Reaches true history history
there history = record { begun = ([], append-nil history); same = λ _. refl }

pub unread_same : (bus : PlainBus) → IsUnread true (knowledge_of bus) (knowledge_of bus)
unread_same bus = inl refl

pub read_same : (bus : PlainBus) → IsLegal bus.seen → IsRead true (knowledge_of bus) (knowledge_of bus)
read_same bus legal = record { reached = there bus.seen; kept = refl; legal = legal; own = legal.numbered 1 }

pub noted_same : (bus : PlainBus) (told : History) → IsNoted true (knowledge_of bus) told (knowledge_of bus)
noted_same bus told = record {
  reached = there bus.seen;
  learned = λ e. absurd (cc e);
  one = λ e. absurd (cc e);
  legal = λ e. absurd (cc e);
  held = λ e. absurd (cc e);
  kept = refl;
  nothing = λ _. refl;
}

-- its changes are counted by its history
pub made_count : (history : History) → AllByRecursion (λ e. e.seat ≡ 1) history → length history ≡ length (numbers_of 1 history)
made_count history own = sym (count_numbers history own)

-- What it knows once it has made some changes: they are numbered on from those that it made before.
added_more : (old new : PlainBus) (change : Change) (more : List Change) → AllByRecursion (λ e. e.seat ≡ 1) old.seen → AllByRecursion (λ e. e.seat ≡ 1) new.seen
    → new ≡ record old { seen = old.seen ++ entries_of 1 (length old.seen + 1) (change ∷ more) }
    → knowledge_of new ≡ having_made (knowledge_of old) (length (change ∷ more)) (old.seen ++ entries_of 1 ((knowledge_of old).made + 1) (change ∷ more))
added_more old new change more own_before own published =
    let changes : List Change = change ∷ more in
    let before = count_numbers old.seen own_before in
    let now = count_numbers new.seen own in
    let opening : new.opening ≡ old.opening = ap (λ (b : PlainBus). b.opening) published in
    let added : new.seen ≡ old.seen ++ entries_of 1 (length old.seen + 1) changes = ap (λ (b : PlainBus). b.seen) published in
    let seen : new.seen ≡ old.seen ++ entries_of 1 (length (numbers_of 1 old.seen) + 1) changes = added ∙ ap (λ n. old.seen ++ entries_of 1 (n + 1) changes) (sym before) in
    let long = ap length added ∙ length-append old.seen (entries_of 1 (length old.seen + 1) changes) in
    let made : length (numbers_of 1 new.seen) ≡ length (numbers_of 1 old.seen) + length changes = omega (arith, before, now, long, entries_length 1 (length old.seen + 1) changes) in
    let held : noted new.seen ≡ Some (old.seen ++ entries_of 1 (length (numbers_of 1 old.seen) + 1) changes) = ap noted seen ∙ noted_more old.seen _ _ in
    λ i. record { registry = 0; opening = opening i; seat = 1; seen = seen i; made = made i; last = length (seen i); held = held i }

pub made_seen : (old new : PlainBus) (change : Change) (outcome : Outcome) → IsMade old new change outcome → AllByRecursion (λ e. e.seat ≡ 1) old.seen → IsLegal new.seen → AllByRecursion (λ e. e.seat ≡ 1) new.seen
    → IsChanged true (knowledge_of old) change outcome (knowledge_of new)
made_seen old new change outcome made own_before legal own = record {
  point = old.seen;
  reached = there old.seen;
  told = made.told;
  added = added_more old new change [] own_before own made.published;
  legal = legal;
  own = legal.numbered 1;
}

pub all_made_seen : (old new : PlainBus) (changes : List Change) (outcomes : List Outcome) → 1 ≤ length changes → AreMade old new changes outcomes → AllByRecursion (λ e. e.seat ≡ 1) old.seen → IsLegal new.seen → AllByRecursion (λ e. e.seat ≡ 1) new.seen
    → AreChanged true (knowledge_of old) changes outcomes (knowledge_of new)
all_made_seen old new [] outcomes some made own_before legal own = absurd (omega (arith, some))
all_made_seen old new (change ∷ more) outcomes some made own_before legal own = record {
  point = old.seen;
  reached = there old.seen;
  told = made.told;
  added = added_more old new change more own_before own made.published;
  legal = legal;
  own = legal.numbered 1;
}
