-- What is kept of the lines of a seat.
use Rattle.std.proofs.Common.{◌≡◌, ◌≢◌, ℕ, ◌+◌, ◌<◌, ◌≤◌, Bool, true, false, cond, Option, Some, None, List, [], ◌∷◌, ◌++◌, length, get_or, set, take, append-nil, refl, sym, ap, ◌∙◌, subst, arith}
use Rattle.std.specs.Prelude.{◌==◌, ◌&&◌, max, nat_lt, nat_le, is_some}
use Rattle.std.specs.List.{list_all}
use Rattle.std.proofs.Math.Bool.{and-true}
use Rattle.std.proofs.lemmas.Bool.{and_parts, eqb-true, true≢false}
use Rattle.std.proofs.lemmas.Bool.Decides.{nat_tests}
use Rattle.std.proofs.lemmas.List.{get_or-set_same, get_or-set_other}
use Rattle.std.proofs.lemmas.List.Elements.{filter-append}
use Rattle.std.proofs.lemmas.List.Sums.{sum_by-append}
use Rattle.trace_lines.specs.Lines.{Line}
use Rattle.trace_check_core.specs.Legality.{changes_in, is_change, number_made, of_seat}
use Rattle.trace_check_core.specs.SeatViews.{highest_place, seat_so_far, AreSoFar}
use Rattle.trace_check_core.specs.Verdicts.{follows, is_behind, is_next}
use Rattle.trace_check_core.proofs.Refusals.{one_more}
use Rattle.trace_check_core.specs.declared.seats.SeatSoFar.{SeatSoFar}

-- ## The highest place

below_both : (a h p : ℕ) → (nat_lt a p && nat_lt h p) ≡ nat_lt (max a h) p
below_both a h p = by_tests (nat_lt a p) (nat_lt h p) refl refl
  where
    by_tests : (b c : Bool) → nat_lt a p ≡ b → nat_lt h p ≡ c → (b && c) ≡ nat_lt (max a h) p
    by_tests true true e f =
        let first : a < p = grind (arith, nat_tests, e) in
        let others : h < p = grind (arith, nat_tests, f) in
        let all : max a h < p = omega (arith, first, others) in
        grind (arith, nat_tests, all)
    by_tests true false e f =
        let other : p ≤ h = grind (arith, nat_tests, f) in
        let not_all : p ≤ max a h = omega (arith, other) in
        grind (arith, nat_tests, not_all)
    by_tests false c e f =
        let first : p ≤ a = grind (arith, nat_tests, e) in
        let not_all : p ≤ max a h = omega (arith, first) in
        grind (arith, nat_tests, not_all)

up_to_both : (a h p : ℕ) → (nat_le a p && nat_le h p) ≡ nat_le (max a h) p
up_to_both a h p = by_tests (nat_le a p) (nat_le h p) refl refl
  where
    by_tests : (b c : Bool) → nat_le a p ≡ b → nat_le h p ≡ c → (b && c) ≡ nat_le (max a h) p
    by_tests true true e f =
        let first : a ≤ p = grind (arith, nat_tests, e) in
        let others : h ≤ p = grind (arith, nat_tests, f) in
        let all : max a h ≤ p = omega (arith, first, others) in
        grind (arith, nat_tests, all)
    by_tests true false e f =
        let other : p < h = grind (arith, nat_tests, f) in
        let not_all : p < max a h = omega (arith, other) in
        grind (arith, nat_tests, not_all)
    by_tests false c e f =
        let first : p < a = grind (arith, nat_tests, e) in
        let not_all : p < max a h = omega (arith, first) in
        grind (arith, nat_tests, not_all)

-- a change stands above all places where it stands above the highest
pub all_below : (place : ℕ) (lines : List Line) → 0 < place → list_all (λ other. nat_lt other.place place) lines ≡ nat_lt (highest_place lines) place
all_below place [] some = grind (arith, nat_tests, some)
all_below place (line ∷ lines) some = ap (λ (b : Bool). nat_lt line.place place && b) (all_below place lines some) ∙ below_both line.place (highest_place lines) place

-- another line does not stand below any where it does not stand below the highest
pub all_up_to : (place : ℕ) (lines : List Line) → list_all (λ other. nat_le other.place place) lines ≡ nat_le (highest_place lines) place
all_up_to place [] = grind (arith, nat_tests)
all_up_to place (line ∷ lines) = ap (λ (b : Bool). nat_le line.place place && b) (all_up_to place lines) ∙ up_to_both line.place (highest_place lines) place

highest_more : (lines : List Line) (line : Line) → highest_place (lines ++ line ∷ []) ≡ max (highest_place lines) line.place
highest_more [] line = omega arith
highest_more (other ∷ lines) line = let more = highest_more lines line in omega (arith, more)

count_more : (lines : List Line) (line : Line) → changes_in (lines ++ line ∷ []) ≡ changes_in lines + cond (is_change line) 1 0
count_more lines line = let more = sum_by-append (λ (l : Line). cond (is_change l) 1 0) lines (line ∷ []) in omega (arith, more)

-- ## What may follow

pub follows_change : (earlier : List Line) (line : Line) (number : ℕ) → number_made line.subject ≡ Some number → 0 < line.place →
    follows earlier line ≡ (nat_lt (highest_place earlier) line.place && (number == changes_in earlier + 1))
follows_change earlier line number e some =
    ap (λ (made : Option ℕ). list_all (λ other. is_behind other.place line.place made) earlier && is_next (changes_in earlier) made) e
    ∙ ap (λ (b : Bool). b && (number == changes_in earlier + 1)) (all_below line.place earlier some)

pub follows_read : (earlier : List Line) (line : Line) → number_made line.subject ≡ None → follows earlier line ≡ nat_le (highest_place earlier) line.place
follows_read earlier line e =
    ap (λ (made : Option ℕ). list_all (λ other. is_behind other.place line.place made) earlier && is_next (changes_in earlier) made) e
    ∙ ap (λ (b : Bool). b && true) (all_up_to line.place earlier) ∙ and-true (nat_le (highest_place earlier) line.place)

made_change : (line : Line) (number : ℕ) → number_made line.subject ≡ Some number → is_change line ≡ true
made_change line number e = ap is_some e

made_read : (line : Line) → number_made line.subject ≡ None → is_change line ≡ false
made_read line e = ap is_some e

-- after a change that follows
pub so_far_change : (earlier : List Line) (line : Line) (number : ℕ) → number_made line.subject ≡ Some number → 0 < line.place → follows earlier line ≡ true →
    record { highest = line.place; changes = number } ≡ seat_so_far (earlier ++ line ∷ [])
so_far_change earlier line number e some follows =
    let both = and_parts (nat_lt (highest_place earlier) line.place) (number == changes_in earlier + 1) (sym (follows_change earlier line number e some) ∙ follows) in
    let above : highest_place earlier < line.place = grind (arith, nat_tests, both.0) in
    let next : number ≡ changes_in earlier + 1 = eqb-true number (changes_in earlier + 1) both.1 in
    let highest = highest_more earlier line in
    let count : changes_in (earlier ++ line ∷ []) ≡ changes_in earlier + 1 = count_more earlier line ∙ ap (λ (b : Bool). changes_in earlier + cond b 1 0) (made_change line number e) in
    let top : line.place ≡ highest_place (earlier ++ line ∷ []) = omega (arith, highest, above) in
    let made : number ≡ changes_in (earlier ++ line ∷ []) = omega (arith, count, next) in
    λ i. record { highest = top i; changes = made i }

-- after another line that follows
pub so_far_read : (earlier : List Line) (line : Line) → number_made line.subject ≡ None → follows earlier line ≡ true →
    record { highest = line.place; changes = changes_in earlier } ≡ seat_so_far (earlier ++ line ∷ [])
so_far_read earlier line e follows =
    let up : highest_place earlier ≤ line.place = let test = sym (follows_read earlier line e) ∙ follows in grind (arith, nat_tests, test) in
    let highest = highest_more earlier line in
    let count : changes_in (earlier ++ line ∷ []) ≡ changes_in earlier + 0 = count_more earlier line ∙ ap (λ (b : Bool). changes_in earlier + cond b 1 0) (made_read line e) in
    let top : line.place ≡ highest_place (earlier ++ line ∷ []) = omega (arith, highest, up) in
    let made : changes_in earlier ≡ changes_in (earlier ++ line ∷ []) = omega (arith, count) in
    λ i. record { highest = top i; changes = made i }

-- ## All seats

of_seat_more : (seat : ℕ) (lines : List Line) (line : Line) → of_seat seat (lines ++ line ∷ []) ≡ of_seat seat lines ++ cond (line.seat == seat) (line ∷ []) []
of_seat_more seat lines line = filter-append (λ (l : Line). l.seat == seat) lines (line ∷ [])

eqb-same : (m n : ℕ) → m ≡ n → (m == n) ≡ true
eqb-same m n e = grind (arith, nat_tests, e)

pub all_so_far : (lines : List Line) (line : Line) (seats : List SeatSoFar) (next : SeatSoFar) → AreSoFar lines seats → length seats ≡ 9 → line.seat < 9 →
    next ≡ seat_so_far (of_seat line.seat lines ++ line ∷ []) → AreSoFar (lines ++ line ∷ []) (set seats line.seat next)
all_so_far lines line seats next kept count within is seat d inside = by_seat (line.seat == seat) refl
  where
    by_seat : (b : Bool) → (line.seat == seat) ≡ b → get_or (set seats line.seat next) seat d ≡ seat_so_far (of_seat seat (lines ++ line ∷ []))
    by_seat true e =
        let same : line.seat ≡ seat = eqb-true line.seat seat e in
        let more : of_seat seat (lines ++ line ∷ []) ≡ of_seat seat lines ++ line ∷ [] = of_seat_more seat lines line ∙ ap (λ (b : Bool). of_seat seat lines ++ cond b (line ∷ []) []) e in
        let there : line.seat < length seats = omega (arith, count, within) in
        ap (λ (n : ℕ). get_or (set seats line.seat next) n d) (sym same) ∙ get_or-set_same seats line.seat next d there ∙ is
        ∙ ap (λ (n : ℕ). seat_so_far (of_seat n lines ++ line ∷ [])) same ∙ ap seat_so_far (sym more)
    by_seat false e =
        let more : of_seat seat (lines ++ line ∷ []) ≡ of_seat seat lines = of_seat_more seat lines line ∙ ap (λ (b : Bool). of_seat seat lines ++ cond b (line ∷ []) []) e ∙ append-nil (of_seat seat lines) in
        let other : seat ≢ line.seat = λ same. absurd (true≢false (sym (eqb-same line.seat seat (sym same)) ∙ e)) in
        get_or-set_other seats line.seat seat next d other ∙ kept seat d inside ∙ ap seat_so_far (sym more)

-- with the line at an index
pub seats_more : (lines : List Line) (i : ℕ) (line : Line) (seats : List SeatSoFar) (seat : ℕ) (next : SeatSoFar) → i < length lines → line ≡ get_or lines i line →
    seat ≡ line.seat → seat < 9 → length seats ≡ 9 → AreSoFar (take i lines) seats → next ≡ seat_so_far (of_seat line.seat (take i lines) ++ line ∷ []) →
    AreSoFar (take (i + 1) lines) (set seats seat next)
seats_more lines i line seats seat next within is same few count kept told =
    let one : line.seat < 9 = omega (arith, same, few) in
    subst (λ (before : List Line). AreSoFar before (set seats seat next)) (sym (one_more lines i line within is))
    (subst (λ (n : ℕ). AreSoFar (take i lines ++ line ∷ []) (set seats n next)) (sym same) (all_so_far (take i lines) line seats next kept count one told))

-- nothing was seen of the seats
pub none_so_far : (seat : ℕ) → seat_so_far (of_seat seat []) ≡ record { highest = 0; changes = 0 }
none_so_far seat = refl
