-- The bus that a line tells of.
use Rattle.std.proofs.Common.{◌≡◌, ℕ, zero, suc, ◌+◌, ◌-◌, ◌<◌, ◌≤◌, Bool, true, false, Option, Some, None, List, [], ◌∷◌, length, map, take, get_or, refl, sym, ap, ◌∙◌, subst, arith}
use Rattle.std.specs.Prelude.{is_some, nat_le, if◌then◌else◌}
use Rattle.std.specs.List.{slice_get, AllByRecursion as Each}
use Rattle.std.proofs.lemmas.Bool.{true≢false}
use Rattle.std.proofs.lemmas.List.{get_or-take}
use Rattle.seq_bus_core.specs.BusState.{BusState}
use Rattle.seq_bus_core.specs.Histories.{after}
use Rattle.trace_lines.specs.Lines.{Line}
use Rattle.trace_check_core.specs.KeptLines.{IsSeated}
use Rattle.trace_check_core.specs.Legality.{changes_in, number_made, places_before, state_at}
use Rattle.trace_check_core.specs.Placing.{LinesThere, lines_by_place, numbered, place_seen}
use Rattle.trace_check_core.specs.Traces.{Trace}
use Rattle.trace_check_core.specs.Verdicts.{first_line, is_placed, misplaced}
use Rattle.trace_check_core.specs.Walks.{bus_told_of, change_entries, line_at, state_before}
use Rattle.trace_check_core.specs.declared.places.PlaceLines.{PlaceLines}
use Rattle.trace_check_core.proofs.LegalityLaws.{all_within}
use Rattle.trace_check_core.proofs.PlaceLemmas.{count_places, seen_at}
use Rattle.trace_check_core.proofs.WalkLaws.{all_pass, found_entries, once, state_next}

pub few_places : (t : Trace) (places : List PlaceLines) (place : ℕ) → map place_seen places ≡ lines_by_place t → place ≤ changes_in t.lines → place < length places
few_places t places place seen within =
    let count = count_places (changes_in t.lines) (numbered (first_line t) t.lines) places seen in omega (arith, count, within)

-- after the change of a place
pub change_made : (t : Trace) (places : List PlaceLines) (i : ℕ) (place : PlaceLines) (bus : BusState) → misplaced t ≡ None → Each (IsSeated t.routers) t.lines → map place_seen places ≡ lines_by_place t → i < length places →
    place ≡ get_or places i place → bus ≡ state_before t i → after bus (change_entries (place_seen place).change) ≡ state_at t i
change_made t places i place bus placed seated seen within is before =
    let count = count_places (changes_in t.lines) (numbered (first_line t) t.lines) places seen in
    let all = all_pass (is_placed (changes_in t.lines)) (first_line t) [] t.lines placed in
    ap (λ (b : BusState). after b (change_entries (place_seen place).change)) before
    ∙ ap (λ (there : LinesThere). after (state_before t i) (change_entries there.change)) (seen_at (changes_in t.lines) (numbered (first_line t) t.lines) places i place seen (omega (arith, count, within)) within is)
    ∙ ap (after (state_before t i)) (sym (found_entries i (first_line t) t.lines (once (changes_in t.lines) i [] t.lines all)))
    ∙ sym (state_next t i seated)

-- one more of the first places
pub one_made : (t : Trace) (places : List PlaceLines) (at i : ℕ) (place : PlaceLines) (bus next : BusState) → misplaced t ≡ None → Each (IsSeated t.routers) t.lines → map place_seen places ≡ lines_by_place t → at ≤ length places → i < at →
    place ≡ get_or (take at places) i place → bus ≡ state_before t i → next ≡ after bus (change_entries (place_seen place).change) → next ≡ state_before t (i + 1)
one_made t places at i place bus next placed seated seen high low is before made =
    let one_more : suc i ≡ i + 1 = omega arith in
    made ∙ change_made t places i place bus placed seated seen (omega (arith, high, low)) (is ∙ get_or-take at places i place low) before ∙ ap (state_before t) one_more

of_change : (place : ℕ) (made : Option ℕ) → is_some made ≡ true → places_before place made ≡ place - 1
of_change place None e = absurd (true≢false (sym e))
of_change place (Some number) e = refl

of_read : (place : ℕ) (made : Option ℕ) → is_some made ≡ false → places_before place made ≡ place
of_read place None e = refl
of_read place (Some number) e = absurd (true≢false e)

before_place : (t : Trace) (place : ℕ) → 0 < place → state_before t place ≡ state_at t (place - 1)
before_place t zero some = absurd (omega (arith, some))
before_place t (suc place) some = let same : place ≡ suc place - 1 = omega arith in ap (state_at t) same

pub change_told_of : (t : Trace) (line : Line) (at : ℕ) (bus : BusState) → at ≡ line.place → 0 < at → is_some (number_made line.subject) ≡ true → bus ≡ state_before t at → bus ≡ bus_told_of t line
change_told_of t line at bus there some change before =
    before ∙ before_place t at some ∙ ap (λ (n : ℕ). state_at t (n - 1)) there ∙ ap (state_at t) (sym (of_change line.place (number_made line.subject) change))

pub read_told_of : (t : Trace) (line : Line) (at : ℕ) (bus : BusState) → at ≡ line.place → is_some (number_made line.subject) ≡ false → bus ≡ state_at t at → bus ≡ bus_told_of t line
read_told_of t line at bus there read before = before ∙ ap (state_at t) (there ∙ sym (of_read line.place (number_made line.subject) read))

-- a line with a number stands among the changes
pub line_within : (t : Trace) (number : ℕ) (line : Line) → misplaced t ≡ None → line_at t number ≡ Some line → line.place ≤ changes_in t.lines
line_within t number line placed e =
    by_number (nat_le (first_line t) number) e
  where
    there : (lines : List Line) (i : ℕ) → Each (λ l. l.place ≤ changes_in t.lines) lines → slice_get lines i ≡ Some line → line.place ≤ changes_in t.lines
    there [] i low e = absurd (cc e)
    there (l ∷ lines) zero low e = let same : l ≡ line = cc e in subst (λ (m : Line). m.place ≤ changes_in t.lines) same low.0
    there (l ∷ lines) (suc i) low e = there lines i low.1 e

    by_number : (b : Bool) → (if b then slice_get t.lines (number - first_line t) else None) ≡ Some line → line.place ≤ changes_in t.lines
    by_number true e = there t.lines (number - first_line t) (all_within (changes_in t.lines) [] t.lines (all_pass (is_placed (changes_in t.lines)) (first_line t) [] t.lines placed)) e
    by_number false e = absurd (cc e)
