-- Every schedule.
use Rattle.std.proofs.Common.{◌≡◌, inl, inr, ℕ, ltb, Bool, true, false, cond, ◌&&◌, nat_le, is_some, Option, Some, None, List, [], ◌∷◌, ◌++◌, length, take, slice_get, slice_set, ◌≤◌, refl, ap, sym, ◌∙◌, subst, arith}
use Rattle.std.proofs.lemmas.Bool.{and_parts}
use Rattle.std.proofs.lemmas.Bool.Decides.{nat_tests}
use Rattle.std.proofs.lemmas.List.{append-nil}
use mathlib.Core.List.{append_assoc}
use Rattle.seq_bus_core.specs.Histories.{History, Begins, longer}
use Rattle.seq_bus_core.specs.Tickets.{WholeBus, bus_after}
use Rattle.seq_bus_core.specs.declared.change.Change.{Change}
use Rattle.seq_bus_core.proofs.Extending.{begins_trans}
use Rattle.interleave_core.specs.declared.step.Question.{Question}
use Rattle.interleave_core.specs.declared.step.Step.{Step}
use Rattle.interleave_core.specs.declared.step.Step.TheVariants.{Read, Publish, TakeNote, Refused}
use Rattle.interleave_core.specs.Worlds.{Moment, Happened, Logged, first_moment, nothing_happened, is_end, having_seen, logged_read, after_read, is_batch, told_from, next_entries, having_published, after_publication, after_note, happens, moment_after, log_of}
use Rattle.interleave_core.specs.Promises.{HasSeen, Grows, Learns, EverySchedule, RefusalsCountForNothing}
use Rattle.interleave_core.proofs.Beginnings.{begins_same, begins_more, begins_shorter, take_begun}
use Rattle.interleave_core.proofs.SeenLists.{found_set, set_there, some_same}
use Rattle.interleave_core.proofs.Keeping.{IsKept, kept_at_first, step_keeps, kept_sound}

-- ## Runs in parts

pub moment_more : (m : Moment) (steps more : List Step) → moment_after m (steps ++ more) ≡ moment_after (moment_after m steps) more
moment_more m [] more = refl
moment_more m (step ∷ steps) more = moment_more (happens m step).0 steps more

pub kept_after : (m : Moment) (log : List Logged) (steps : List Step) → IsKept m log → IsKept (moment_after m steps) (log ++ log_of m steps)
kept_after m log [] kept = subst (IsKept m) (sym (append-nil log)) kept
kept_after m log (step ∷ steps) kept =
    let next = happens m step in
    subst (IsKept (moment_after next.0 steps)) (append_assoc log next.1 (log_of next.0 steps)) (kept_after next.0 (log ++ next.1) steps (step_keeps m log step kept))

pub kept_of : (opening : WholeBus) (steps : List Step) → IsKept (moment_after (first_moment opening) steps) (log_of (first_moment opening) steps)
kept_of opening steps = kept_after (first_moment opening) [] steps (kept_at_first opening)

-- ## Growing

grows_same : (m : Moment) → Grows m m
grows_same m = record { published = begins_same m.published; seats = λ seat seen there. (seen, there, begins_same seen) }

grows_trans : (a b c : Moment) → Grows a b → Grows b c → Grows a c
grows_trans a b c p q = record {
  published = begins_trans a.published b.published c.published p.published q.published;
  seats = λ seat seen there.
      let first = p.seats seat seen there in
      let second = q.seats seat first.0 first.1 in
      (second.0, second.1, begins_trans seen first.0 second.0 first.2 second.2);
}

-- a seat has seen more
grows_seen : (m : Moment) (seat : ℕ) (seen point published : History) (ends : List ℕ) → slice_get m.seen seat ≡ Some seen → Begins seen point → Begins m.published published →
    Grows m (record { opening = m.opening; published = published; ends = ends; seen = slice_set m.seen seat point })
grows_seen m seat seen point published ends there more begun = record {
  published = begun;
  seats = λ other h found. elim (found_set m.seen seat other point h found) [
    | inl same ↦ (
        let as_seen : seen ≡ h = some_same seen h (sym there ∙ ap (slice_get m.seen) same.0 ∙ found) in
        (point, same.1, subst (λ x. Begins x point) as_seen more)
        )
    | inr old ↦ (h, old.1, begins_same h)
  ];
}

point_of : (m : Moment) (log : List Logged) (place : ℕ) → IsKept m log → is_end m place ≡ true → Begins (take place m.published) m.published × (length (take place m.published) ≡ place)
point_of m log place kept is =
    let end = kept.ends place is in
    let point_is : take place m.published ≡ end.point = ap (λ n. take n m.published) (sym end.place_is) ∙ take_begun end.point m.published end.begins in
    (subst (λ h. Begins h m.published) (sym point_is) end.begins, ap length point_is ∙ end.place_is)

read_grows : (m : Moment) (log : List Logged) (seat place : ℕ) (question : Question) → IsKept m log → (o : Option History) → slice_get m.seen seat ≡ o → Grows m (after_read m seat place question o).0
read_grows m log seat place question kept None there = grows_same m
read_grows m log seat place question kept (Some seen) there = by_test (is_end m place && nat_le (length seen) place) refl
  where
    result : Bool → Happened
    result b = cond b (having_seen m seat (take place m.published), logged_read m seat place question ∷ []) (nothing_happened m)

    by_test : (b : Bool) → (is_end m place && nat_le (length seen) place) ≡ b → Grows m (result b).0
    by_test true is =
        let parts = and_parts (is_end m place) (nat_le (length seen) place) is in
        let point = point_of m log place kept parts.0 in
        let le : length seen ≤ place = grind (arith, nat_tests, parts.1) in
        let more : Begins seen (take place m.published) = begins_shorter seen (take place m.published) m.published (kept.seats seat seen there).begins point.0 (subst (λ n. length seen ≤ n) (sym point.1) le) in
        grows_seen m seat seen (take place m.published) m.published m.ends there more (begins_same m.published)
    by_test false is = grows_same m

publication_grows : (m : Moment) (log : List Logged) (seat : ℕ) (changes : List Change) → IsKept m log → (o : Option History) → slice_get m.seen seat ≡ o → Grows m (after_publication m seat changes o).0
publication_grows m log seat changes kept None there = grows_same m
publication_grows m log seat changes kept (Some seen) there = by_test (is_batch changes)
  where
    now : History
    now = m.published ++ next_entries m seat changes

    result : Bool → Happened
    result b = cond b (having_published m seat now, told_from (bus_after m.opening m.published) seat (length m.published) changes) (nothing_happened m)

    by_test : (b : Bool) → Grows m (result b).0
    by_test true =
        let begun = begins_more m.published (next_entries m seat changes) in
        grows_seen m seat seen now now (m.ends ++ length now ∷ []) there (begins_trans seen m.published now (kept.seats seat seen there).begins begun) begun
    by_test false = grows_same m

longer_grows : (seen point published : History) → Begins seen published → Begins point published → Begins seen (longer (Some seen) point) × Begins point (longer (Some seen) point)
longer_grows seen point published p q = by_test (ltb (length seen) (length point)) refl
  where
    by_test : (b : Bool) → ltb (length seen) (length point) ≡ b → Begins seen (cond b point seen) × Begins point (cond b point seen)
    by_test true less = let le : length seen ≤ length point = grind (arith, nat_tests) in (begins_shorter seen point published p q le, begins_same point)
    by_test false more = let le : length point ≤ length seen = grind (arith, nat_tests) in (begins_same seen, begins_shorter point seen published q p le)

note_grows : (m : Moment) (log : List Logged) (seat place : ℕ) → IsKept m log → (o : Option History) → slice_get m.seen seat ≡ o → Grows m (after_note m seat place o).0
note_grows m log seat place kept None there = grows_same m
note_grows m log seat place kept (Some seen) there = by_test (is_end m place) refl
  where
    result : Bool → Happened
    result b = cond b (nothing_happened (having_seen m seat (longer (Some seen) (take place m.published)))) (nothing_happened m)

    by_test : (b : Bool) → is_end m place ≡ b → Grows m (result b).0
    by_test true is =
        let point = point_of m log place kept is in
        grows_seen m seat seen (longer (Some seen) (take place m.published)) m.published m.ends there (longer_grows seen (take place m.published) m.published (kept.seats seat seen there).begins point.0).0 (begins_same m.published)
    by_test false is = grows_same m

step_grows : (m : Moment) (log : List Logged) (step : Step) → IsKept m log → Grows m (happens m step).0
step_grows m log (Read seat place question) kept = read_grows m log seat place question kept (slice_get m.seen seat) refl
step_grows m log (Publish seat changes) kept = publication_grows m log seat changes.items kept (slice_get m.seen seat) refl
step_grows m log (TakeNote seat place) kept = note_grows m log seat place kept (slice_get m.seen seat) refl
step_grows m log (Refused seat changes) kept = grows_same m

grows_after : (m : Moment) (log : List Logged) (steps : List Step) → IsKept m log → Grows m (moment_after m steps)
grows_after m log [] kept = grows_same m
grows_after m log (step ∷ steps) kept =
    let next = happens m step in
    grows_trans m next.0 (moment_after next.0 steps) (step_grows m log step kept) (grows_after next.0 (log ++ next.1) steps (step_keeps m log step kept))

-- ## Notes

note_learns : (m : Moment) (log : List Logged) (seat place : ℕ) → IsKept m log → (o : Option History) → slice_get m.seen seat ≡ o → is_some o ≡ true → is_end m place ≡ true → HasSeen (after_note m seat place o).0 seat (take place m.published)
note_learns m log seat place kept None there some is = absurd (cc some)
note_learns m log seat place kept (Some seen) there some is = subst (λ b. HasSeen (result b).0 seat (take place m.published)) (sym is) here
  where
    now : History
    now = longer (Some seen) (take place m.published)

    result : Bool → Happened
    result b = cond b (nothing_happened (having_seen m seat now)) (nothing_happened m)

    here : HasSeen (having_seen m seat now) seat (take place m.published)
    here =
        let point = point_of m log place kept is in
        (now, set_there m.seen seat now seen there, (longer_grows seen (take place m.published) m.published (kept.seats seat seen there).begins point.0).1)

learns_after : (m : Moment) (log : List Logged) (seat place : ℕ) → IsKept m log → Learns m seat place (happens m (TakeNote seat place)).0
learns_after m log seat place kept some is = note_learns m log seat place kept (slice_get m.seen seat) refl some is

-- ## All of it

pub every_schedule : EverySchedule
every_schedule opening steps = record {
  sound = λ done left is. kept_sound (moment_after first done) (log_of first done) (kept_of opening done);
  grows = λ done more left is. subst (Grows (moment_after first done)) (sym (moment_more first done more)) (grows_after (moment_after first done) (log_of first done) more (kept_of opening done));
  learns = λ done left seat place is. subst (Learns (moment_after first done) seat place) (sym (moment_more first done (TakeNote seat place ∷ []))) (learns_after (moment_after first done) (log_of first done) seat place (kept_of opening done));
}
  where
    first : Moment
    first = first_moment opening

pub refusals_count_for_nothing : RefusalsCountForNothing
refusals_count_for_nothing m [] = (refl, refl)
refusals_count_for_nothing m (Read seat place question ∷ steps) =
    let next = happens m (Read seat place question) in
    let rest = refusals_count_for_nothing next.0 steps in (rest.0, ap (λ log. next.1 ++ log) rest.1)
refusals_count_for_nothing m (Publish seat changes ∷ steps) =
    let next = happens m (Publish seat changes) in
    let rest = refusals_count_for_nothing next.0 steps in (rest.0, ap (λ log. next.1 ++ log) rest.1)
refusals_count_for_nothing m (TakeNote seat place ∷ steps) =
    let next = happens m (TakeNote seat place) in
    let rest = refusals_count_for_nothing next.0 steps in (rest.0, ap (λ log. next.1 ++ log) rest.1)
refusals_count_for_nothing m (Refused seat changes ∷ steps) = refusals_count_for_nothing m steps
