-- The lines of a batch, one after the other.
use Rattle.std.proofs.Common.{◌≡◌, ℕ, suc, ◌+◌, ◌≤◌, Bool, List, [], ◌∷◌, ◌++◌, length, drop, min, append-nil, length-append, length-drop, refl, sym, ap, ◌∙◌, arith}
use Rattle.names.specs.Texts.{Text}
use Rattle.seq_bus_core.specs.Batches.{IsBatch, entries_of, outcomes_of}
use Rattle.seq_bus_core.specs.Tickets.{WholeBus, bus_step, bus_after}
use Rattle.seq_bus_core.specs.declared.change.Change.{Change}
use Rattle.seq_bus_core.specs.declared.outcome.Outcome.{Outcome}
use Rattle.seq_bus_core.proofs.Extending.{entries_length}
use Rattle.bus_view.specs.Views.{AreChanged, Knowledge}
use Rattle.bus_trace.specs.Recordings.{changes_ended}

-- the lines of the changes from the i-th on
abbrev pub lines_from : ℕ → ℕ → ℕ → List Text → List Outcome → ℕ → Text
lines_from place seat number changes outcomes i = changes_ended (place + i) seat (number + i) (drop i changes) (drop i outcomes)

no_lines : (place seat number : ℕ) (changes : List Text) (outcomes : List Outcome) → min (length changes) (length outcomes) ≡ 0 → changes_ended place seat number changes outcomes ≡ []
no_lines place seat number [] outcomes none = refl
no_lines place seat number (change ∷ changes) [] none = refl
no_lines place seat number (change ∷ changes) (outcome ∷ outcomes) none = absurd (omega (arith, none))

pub all_lines : (before whole : Text) (place seat number i : ℕ) (changes : List Text) (outcomes : List Outcome) → min (length changes) (length outcomes) ≤ i →
    before ++ lines_from place seat number changes outcomes i ≡ whole → before ≡ whole
all_lines before whole place seat number i changes outcomes all so_far =
    let left = length-drop i changes in
    let told_left = length-drop i outcomes in
    let none : min (length (drop i changes)) (length (drop i outcomes)) ≡ 0 = omega (arith, left, told_left, all) in
    sym (append-nil before) ∙ ap (λ (t : Text). before ++ t) (sym (no_lines (place + i) seat (number + i) (drop i changes) (drop i outcomes) none)) ∙ so_far

-- ## How many they are

length_outcomes : (b : WholeBus) (seat : ℕ) (changes : List Change) → length (outcomes_of b seat changes) ≡ length changes
length_outcomes b seat [] = refl
length_outcomes b seat (change ∷ changes) = ap (λ (n : ℕ). suc n) (length_outcomes (bus_step b seat change).0 seat changes)

-- a batch is answered change by change, and its changes are the last of the history and of those that the view made
pub batch_places : (alone : Bool) (old new : Knowledge) (changes : List Change) (outcomes : List Outcome) → IsBatch changes → AreChanged alone old changes outcomes new →
    (1 ≤ length outcomes) × (length outcomes ≡ length changes) × (length changes ≤ new.last) × (length changes ≤ new.made)
batch_places alone old new changes outcomes batch are =
    let told : length outcomes ≡ length changes = ap (λ (os : List Outcome). length os) are.told ∙ length_outcomes (bus_after old.opening are.point) old.seat changes in
    let entries = entries_of old.seat (old.made + 1) changes in
    let last : new.last ≡ length (are.point ++ entries) = ap (λ (k : Knowledge). k.last) are.added in
    let made : new.made ≡ old.made + length changes = ap (λ (k : Knowledge). k.made) are.added in
    let parts = length-append are.point entries in
    let added = entries_length old.seat (old.made + 1) changes in
    (omega (arith, batch.0, told), told, omega (arith, last, parts, added), omega (arith, made))
