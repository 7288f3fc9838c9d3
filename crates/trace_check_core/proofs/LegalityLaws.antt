-- A file gets a yes exactly where it is a legal trace.
use Rattle.std.proofs.Common.{◌≡◌, ℕ, zero, suc, ◌+◌, ◌<◌, ◌≤◌, Bool, true, false, cond, Option, Some, None, List, [], ◌∷◌, ◌++◌, length, map, filter, get_or, remove, eqb, refl, sym, ap, ◌∙◌, subst, append-nil, append_assoc, arith}
use Rattle.std.specs.Prelude.{◌==◌, ◌&&◌, ◌||◌, not, nat_le, IfOk, IfSome, Result, Ok, Err, option_map, option_and_then}
use Rattle.std.specs.Option.{option_map_or}
use Rattle.std.specs.List.{list_all, list_any, range_with_len, AllByRecursion as Each, IsDistinct}
use Rattle.std.specs.List.Sorted.{IsPermutation}
use Rattle.std.proofs.lemmas.Bool.{and_parts, and_from, cond_both, eqb-true, or_from, or_parts, true≢false}
use Rattle.std.proofs.lemmas.Bool.Decides.{nat_tests}
use Rattle.std.proofs.lemmas.Cmp.{nat_list_eq_equiv}
use Rattle.std.proofs.lemmas.List.Edits.{length-remove}
use Rattle.std.proofs.lemmas.List.FromFn.{length-range_with_len}
use Rattle.std.proofs.lemmas.List.Sorted.{IsPermutation-refl, IsPermutation-cons, IsPermutation-remove, IsPermutation-sym, IsPermutation-trans, list_any-IsPermutation}
use Rattle.std.proofs.lemmas.List.Sums.{sum_by-cons}
use Rattle.std.proofs.lemmas.Map.Keys.{IsDistinct-IsPermutation, IsDistinct-cons, IsDistinct-head, IsDistinct-tail}
use Rattle.names.specs.Texts.{Text, text_eq}
use Rattle.owner_queues.specs.declared.request.Profile.{Profile}
use Rattle.seq_bus_core.proofs.TextLemmas.{text_eq-true}
use Rattle.trace_lines.specs.Comparing.{same_words}
use Rattle.trace_lines.specs.Heads.{profile_of, routers_of, service_of}
use Rattle.trace_words.specs.Hex.{utf8_of}
use Rattle.trace_lines.specs.Lines.{Line, line_of}
use Rattle.trace_words.specs.Words.{space, parts}
use Rattle.trace_check_core.specs.KeptLines.{IsSeated}
use Rattle.trace_check_core.specs.Legality.{IsBehind, IsInOrder, IsLegal, IsLegalFile, IsLegalWithLines, IsNext, IsRight, changes_in, due, is_change, number_made, of_seat}
use Rattle.trace_check_core.specs.Traces.{Trace, headed, lines_of, longer_trace, routed, takes_service, trace_headed, trace_of, trace_on, with_line, with_service, with_text}
use Rattle.trace_check_core.specs.Verdicts.{LegalTracesGetAYes, first_line, first_refused, follows, is_behind, is_change_at, is_in_order, is_next, is_placed, judged, misplaced, out_of_order, verdict_of_file, verdict_read, wrong}
use Rattle.trace_check_core.specs.declared.verdict.Verdict.TheVariants.{Yes}
use Rattle.trace_check_core.proofs.HeldTraces.{seated_more}
use Rattle.trace_check_core.proofs.LineLaws.{line_seated}
use Rattle.trace_check_core.proofs.WalkLaws.{AllPass, Once, all_pass, by_itself, once, within}

-- ## Words

same_words_same : (xs ys : List Text) → same_words xs ys ≡ true → xs ≡ ys
same_words_same [] [] e = refl
same_words_same [] (y ∷ ys) e = absurd (true≢false (sym e))
same_words_same (x ∷ xs) [] e = absurd (true≢false (sym e))
same_words_same (x ∷ xs) (y ∷ ys) e = let both = and_parts (text_eq x y) (same_words xs ys) e in λ i. text_eq-true x y both.0 i ∷ same_words_same xs ys both.1 i

same_words_itself : (xs : List Text) → same_words xs xs ≡ true
same_words_itself [] = refl
same_words_itself (x ∷ xs) = and_from (text_eq x x) (same_words xs xs) (nat_list_eq_equiv.refl x) (same_words_itself xs)

-- ## Lines that all pass, and what holds of each

pub each_passes : (test : List Line → Line → Bool) (before lines front later : List Line) (line : Line) → AllPass test before lines → front ++ line ∷ later ≡ lines → test (before ++ front) line ≡ true
each_passes test before [] [] later line all e = absurd (cc e)
each_passes test before [] (x ∷ front) later line all e = absurd (cc e)
each_passes test before (l ∷ lines) [] later line all e =
    let same : line ≡ l = cc e in
    ap (λ (b : List Line). test b line) (append-nil before) ∙ ap (test before) same ∙ all.0
each_passes test before (l ∷ lines) (x ∷ front) later line all e =
    let same : x ≡ l = cc e in
    let rest : front ++ line ∷ later ≡ lines = cc e in
    ap (λ (b : List Line). test b line) (sym (append_assoc before (x ∷ []) front) ∙ ap (λ (y : Line). (before ++ y ∷ []) ++ front) same)
    ∙ each_passes test (before ++ l ∷ []) lines front later line all.1 rest

pub passes_each : (test : List Line → Line → Bool) (before lines : List Line) → ((front later : List Line) (line : Line) → front ++ line ∷ later ≡ lines → test (before ++ front) line ≡ true) → AllPass test before lines
passes_each test before [] h = tt
passes_each test before (l ∷ lines) h = (
  ap (λ (b : List Line). test b l) (sym (append-nil before)) ∙ h [] lines l refl,
  passes_each test (before ++ l ∷ []) lines (λ front later line e. ap (λ (b : List Line). test b line) (append_assoc before (l ∷ []) front) ∙ h (l ∷ front) later line (ap (λ (ls : List Line). l ∷ ls) e)),
)

pub none_refused : (test : List Line → Line → Bool) (number : ℕ) (before lines : List Line) → AllPass test before lines → first_refused test number before lines ≡ None
none_refused test number before [] all = refl
none_refused test number before (line ∷ lines) all = rw all.0 (none_refused test (number + 1) (before ++ line ∷ []) lines all.1)

-- ## Order

behind_is : (place other : ℕ) (made : Option ℕ) → is_behind other place made ≡ true → IsBehind other place made
behind_is place other None e = grind (arith, nat_tests, e)
behind_is place other (Some number) e = grind (arith, nat_tests, e)

behind_passes : (place other : ℕ) (made : Option ℕ) → IsBehind other place made → is_behind other place made ≡ true
behind_passes place other None h = grind (arith, nat_tests, h)
behind_passes place other (Some number) h = grind (arith, nat_tests, h)

next_is : (changes : ℕ) (made : Option ℕ) → is_next changes made ≡ true → IsNext changes made
next_is changes None e = tt
next_is changes (Some number) e = eqb-true number (changes + 1) e

next_passes : (changes : ℕ) (made : Option ℕ) → IsNext changes made → is_next changes made ≡ true
next_passes changes None h = refl
next_passes changes (Some number) h = grind (arith, nat_tests, h)

each_behind : (place : ℕ) (made : Option ℕ) (earlier : List Line) → list_all (λ other. is_behind other.place place made) earlier ≡ true → Each (λ other. IsBehind other.place place made) earlier
each_behind place made [] e = tt
each_behind place made (other ∷ earlier) e =
    let both = and_parts (is_behind other.place place made) (list_all (λ o. is_behind o.place place made) earlier) e in
    (behind_is place other.place made both.0, each_behind place made earlier both.1)

behind_each : (place : ℕ) (made : Option ℕ) (earlier : List Line) → Each (λ other. IsBehind other.place place made) earlier → list_all (λ other. is_behind other.place place made) earlier ≡ true
behind_each place made [] h = refl
behind_each place made (other ∷ earlier) h =
    and_from (is_behind other.place place made) (list_all (λ o. is_behind o.place place made) earlier) (behind_passes place other.place made h.0) (behind_each place made earlier h.1)

pub in_order : (earlier : List Line) (line : Line) → follows earlier line ≡ true → IsInOrder earlier line
in_order earlier line e =
    let both = and_parts (list_all (λ o. is_behind o.place line.place (number_made line.subject)) earlier) (is_next (changes_in earlier) (number_made line.subject)) e in
    record { behind = each_behind line.place (number_made line.subject) earlier both.0; numbered = next_is (changes_in earlier) (number_made line.subject) both.1 }

pub follows_in_order : (earlier : List Line) (line : Line) → IsInOrder earlier line → follows earlier line ≡ true
follows_in_order earlier line h =
    and_from (list_all (λ o. is_behind o.place line.place (number_made line.subject)) earlier) (is_next (changes_in earlier) (number_made line.subject))
    (behind_each line.place (number_made line.subject) earlier h.behind) (next_passes (changes_in earlier) (number_made line.subject) h.numbered)

-- ## Places

-- numbers that differ, each
abbrev Differ : List ℕ → Type 0
Differ [] = Unit {0}
Differ (x ∷ xs) = (list_any (λ y. y == x) xs ≡ false) × Differ xs

abbrev Among : List ℕ → ℕ → Type 0
Among ys x = list_any (λ y. y == x) ys ≡ true

at_index : (ys : List ℕ) (x : ℕ) → Among ys x → (i : ℕ) × (i < length ys) × (x ≡ get_or ys i x)
at_index [] x e = absurd (true≢false (sym e))
at_index (y ∷ ys) x e = by_test (y == x) refl e (at_index ys x)
  where
    by_test : (b : Bool) → (y == x) ≡ b → (b || list_any (λ z. z == x) ys) ≡ true →
        (Among ys x → (i : ℕ) × (i < length ys) × (x ≡ get_or ys i x)) → (i : ℕ) × (i < length (y ∷ ys)) × (x ≡ get_or (y ∷ ys) i x)
    by_test true is e more = (0, omega arith, sym (eqb-true y x is))
    by_test false is e more = let rest = more e in (suc rest.0, omega (arith, rest.1), rest.2)

both_differ : (x : ℕ) (xs : List ℕ) (P : ℕ → Type 0) → list_any (λ y. y == x) xs ≡ false → Each P xs → Each (λ z. P z × ((x == z) ≡ false)) xs
both_differ x [] P e h = tt
both_differ x (z ∷ xs) P e h =
    let parts = or_parts (z == x) (list_any (λ y. y == x) xs) e in
    let apart : (x == z) ≡ false = grind (arith, nat_tests, parts.0) in
    ((h.0, apart), both_differ x xs P parts.1 h.1)

still_among : (x : ℕ) (ys rest : List ℕ) → IsPermutation ys (x ∷ rest) → (xs : List ℕ) → Each (λ z. Among ys z × ((x == z) ≡ false)) xs → Each (Among rest) xs
still_among x ys rest perm [] h = tt
still_among x ys rest perm (z ∷ xs) h =
    let moved : (((x == z) || list_any (λ y. y == z) rest) ≡ true) = sym (list_any-IsPermutation (λ y. y == z) ys (x ∷ rest) perm) ∙ h.0.0 in
    (ap (λ (b : Bool). b || list_any (λ y. y == z) rest) (sym h.0.1) ∙ moved, still_among x ys rest perm xs h.1)

-- numbers that differ, as many as there are, are all of them
all_of : (xs ys : List ℕ) → Differ xs → Each (Among ys) xs → length xs ≡ length ys → IsPermutation xs ys
all_of [] [] differ among e = IsPermutation-refl []
all_of [] (y ∷ ys) differ among e = absurd (omega (arith, e))
all_of (x ∷ xs) ys differ among e =
    let found = at_index ys x among.0 in
    let rest = remove ys found.0 in
    let moved : IsPermutation ys (x ∷ rest) = IsPermutation-remove ys found.0 x found.1 found.2 in
    let others = still_among x ys rest moved xs (both_differ x xs (Among ys) differ.0 among.1) in
    let count = length-remove ys found.0 found.1 in
    IsPermutation-trans (x ∷ xs) (x ∷ rest) ys (IsPermutation-cons x xs rest (all_of xs rest differ.1 others (omega (arith, count, e)))) (IsPermutation-sym ys (x ∷ rest) moved)

in_range : (p a n : ℕ) → a ≤ p → p < a + n → Among (range_with_len a n) p
in_range p a zero low high = absurd (omega (arith, low, high))
in_range p a (suc n) low high = by_test (a == p) refl (λ above. in_range p (a + 1) n above (omega (arith, high)))
  where
    by_test : (b : Bool) → (a == p) ≡ b → (a + 1 ≤ p → Among (range_with_len (a + 1) n) p) → (b || list_any (λ y. y == p) (range_with_len (a + 1) n)) ≡ true
    by_test true is more = refl
    by_test false is more = let above : a + 1 ≤ p = grind (arith, nat_tests, is, low) in more above

abbrev places_of : List Line → List ℕ
places_of lines = map (λ line. line.place) (filter is_change lines)

any_place : (p : ℕ) (lines : List Line) → list_any (λ y. y == p) (places_of lines) ≡ list_any (is_change_at p) lines
any_place p [] = refl
any_place p (line ∷ lines) = by_test (is_change line) (any_place p lines)
  where
    by_test : (b : Bool) → list_any (λ y. y == p) (places_of lines) ≡ list_any (is_change_at p) lines →
        list_any (λ y. y == p) (map (λ (l : Line). l.place) (cond b (line ∷ filter is_change lines) (filter is_change lines))) ≡ ((b && (line.place == p)) || list_any (is_change_at p) lines)
    by_test true rest = ap (λ (b : Bool). (line.place == p) || b) rest
    by_test false rest = rest

places_differ : (lines : List Line) → ((p : ℕ) → Once p lines) → Differ (places_of lines)
places_differ [] once = tt
places_differ (line ∷ lines) once = by_test (is_change line) refl (places_differ lines (λ p. (once p).1))
  where
    by_test : (b : Bool) → is_change line ≡ b → Differ (places_of lines) → Differ (map (λ (l : Line). l.place) (cond b (line ∷ filter is_change lines) (filter is_change lines)))
    by_test true is rest =
        let there : is_change_at line.place line ≡ true = let same : (line.place == line.place) ≡ true = grind (arith, nat_tests) in and_from (is_change line) (line.place == line.place) is same in
        (any_place line.place lines ∙ (once line.place).0 there, rest)
    by_test false is rest = rest

places_within : (changes : ℕ) (lines : List Line) → Each (λ l. l.place ≤ changes) lines → Each (λ l. is_change l ≡ true → 0 < l.place) lines → Each (Among (range_with_len 1 changes)) (places_of lines)
places_within changes [] few some = tt
places_within changes (line ∷ lines) few some = by_test (is_change line) refl (places_within changes lines few.1 some.1)
  where
    by_test : (b : Bool) → is_change line ≡ b → Each (Among (range_with_len 1 changes)) (places_of lines) → Each (Among (range_with_len 1 changes)) (map (λ (l : Line). l.place) (cond b (line ∷ filter is_change lines) (filter is_change lines)))
    by_test true is rest = let low = some.0 is in let high = few.0 in (in_range line.place 1 changes (omega (arith, low)) (omega (arith, high)), rest)
    by_test false is rest = rest

count_places : (lines : List Line) → length (places_of lines) ≡ changes_in lines
count_places [] = refl
count_places (line ∷ lines) = by_test (is_change line) (count_places lines) ∙ sym (sum_by-cons (λ (l : Line). cond (is_change l) 1 0) line lines)
  where
    by_test : (b : Bool) → length (places_of lines) ≡ changes_in lines → length (map (λ (l : Line). l.place) (cond b (line ∷ filter is_change lines) (filter is_change lines))) ≡ cond b 1 0 + changes_in lines
    by_test true rest = omega (arith, rest)
    by_test false rest = omega (arith, rest)

pub placed_all : (lines : List Line) → ((p : ℕ) → Once p lines) → Each (λ l. l.place ≤ changes_in lines) lines → Each (λ l. is_change l ≡ true → 0 < l.place) lines →
    IsPermutation (places_of lines) (range_with_len 1 (changes_in lines))
placed_all lines once few some =
    let count = count_places lines in
    let range = length-range_with_len 1 (changes_in lines) in
    all_of (places_of lines) (range_with_len 1 (changes_in lines)) (places_differ lines once) (places_within (changes_in lines) lines few some) (omega (arith, count, range))

-- ## From such a permutation

differ : (xs : List ℕ) → IsDistinct eqb xs → Differ xs
differ [] distinct = tt
differ (x ∷ xs) distinct = (none_same xs (IsDistinct-head eqb x xs distinct), differ xs (IsDistinct-tail eqb x xs distinct))
  where
    none_same : (ys : List ℕ) → Each (λ y. eqb x y ≡ false) ys → list_any (λ y. y == x) ys ≡ false
    none_same [] apart = refl
    none_same (y ∷ ys) apart = or_from (y == x) (list_any (λ z. z == x) ys) (let other = apart.0 in grind (arith, nat_tests, other)) (none_same ys apart.1)

above_apart : (x a n : ℕ) → x < a → Each (λ y. eqb x y ≡ false) (range_with_len a n)
above_apart x a zero below = tt
above_apart x a (suc n) below = (grind (arith, nat_tests, below), above_apart x (a + 1) n (omega (arith, below)))

none_distinct : IsDistinct eqb []
unfolding IsDistinct
none_distinct = tt

range_distinct : (a n : ℕ) → IsDistinct eqb (range_with_len a n)
range_distinct a zero = none_distinct
range_distinct a (suc n) = IsDistinct-cons eqb a (range_with_len (a + 1) n) (above_apart a (a + 1) n (omega arith)) (range_distinct (a + 1) n)

permutation_differs : (xs : List ℕ) (a n : ℕ) → IsPermutation xs (range_with_len a n) → Differ xs
permutation_differs xs a n perm =
    differ xs (IsDistinct-IsPermutation eqb flips (range_with_len a n) xs (IsPermutation-sym xs (range_with_len a n) perm) (range_distinct a n))
  where
    flips : (x y : ℕ) → eqb x y ≡ eqb y x
    flips x y = grind (arith, nat_tests)

differ_apart : (xs ys : List ℕ) (p : ℕ) → Differ (xs ++ p ∷ ys) → list_any (λ y. y == p) xs ≡ false
differ_apart [] ys p h = refl
differ_apart (x ∷ xs) ys p h =
    or_from (x == p) (list_any (λ y. y == p) xs) (let other = not_among xs h.0 in grind (arith, nat_tests, other)) (differ_apart xs ys p h.1)
  where
    not_among : (zs : List ℕ) → list_any (λ y. y == x) (zs ++ p ∷ ys) ≡ false → (p == x) ≡ false
    not_among [] e = (or_parts (p == x) (list_any (λ y. y == x) ys) e).0
    not_among (z ∷ zs) e = not_among zs (or_parts (z == x) (list_any (λ y. y == x) (zs ++ p ∷ ys)) e).1

places_both : (xs ys : List Line) → places_of (xs ++ ys) ≡ places_of xs ++ places_of ys
places_both [] ys = refl
places_both (x ∷ xs) ys = by_kind (is_change x) (places_both xs ys)
  where
    by_kind : (b : Bool) → places_of (xs ++ ys) ≡ places_of xs ++ places_of ys →
        map (λ (l : Line). l.place) (cond b (x ∷ filter is_change (xs ++ ys)) (filter is_change (xs ++ ys))) ≡ map (λ (l : Line). l.place) (cond b (x ∷ filter is_change xs) (filter is_change xs)) ++ places_of ys
    by_kind true rest = ap (λ (ps : List ℕ). x.place ∷ ps) rest
    by_kind false rest = rest

placed_line : (changes : ℕ) (before later : List Line) (line : Line) → Differ (places_of (before ++ line ∷ later)) → line.place ≤ changes → is_placed changes before line ≡ true
placed_line changes before later line apart low =
    let few : nat_le line.place changes ≡ true = grind (arith, nat_tests, low) in
    and_from (nat_le line.place changes) (not (is_change line && list_any (is_change_at line.place) before)) few (by_kind (is_change line) (subst Differ (places_both before (line ∷ later)) apart))
  where
    by_kind : (b : Bool) → Differ (places_of before ++ map (λ (l : Line). l.place) (cond b (line ∷ filter is_change later) (filter is_change later))) → not (b && list_any (is_change_at line.place) before) ≡ true
    by_kind true apart = ap not (sym (any_place line.place before) ∙ differ_apart (places_of before) (places_of later) line.place apart)
    by_kind false apart = refl

placed_pass : (changes : ℕ) (before lines : List Line) → Differ (places_of (before ++ lines)) → Each (λ l. l.place ≤ changes) lines → AllPass (is_placed changes) before lines
placed_pass changes before [] apart low = tt
placed_pass changes before (line ∷ lines) apart low = (
  placed_line changes before lines line apart low.0,
  placed_pass changes (before ++ line ∷ []) lines (subst (λ (ls : List Line). Differ (places_of ls)) (sym (append_assoc before (line ∷ []) lines)) apart) low.1,
)

-- ## The lines that a file has

abbrev AreSeated : Trace → Type 0
AreSeated t = Each (IsSeated t.routers) t.lines

ok_or : {A : Type 0} (Q : A → Type 0) (f : A → Result Trace ℕ) (o : Option A) (number : ℕ) → IfSome o Q → ((x : A) → Q x → IfOk (f x) AreSeated) → IfOk (option_map_or f o (Err number)) AreSeated
ok_or Q f None number some each = tt
ok_or Q f (Some x) number some each = each x some

service_seated : (t : Trace) (name : Text) → AreSeated t → IfSome (with_service t name) AreSeated
service_seated t name seated = cond_both (takes_service t name) (Some (record t { services = t.services ++ name ∷ [] })) None (λ o. IfSome o AreSeated) (λ _. seated) (λ _. tt)

line_more_seated : (t : Trace) (text : Text) (o : Option Line) → AreSeated t → line_of t.routers text ≡ o → IfSome (option_map (with_line t) o) AreSeated
line_more_seated t text None seated e = tt
line_more_seated t text (Some line) seated e = seated_more t.routers t.lines line seated (line_seated t.routers text line e)

text_seated : (t : Trace) (text : Text) → AreSeated t → IfSome (with_text t text) AreSeated
text_seated t text seated = by_service (service_of text)
  where
    by_service : (o : Option Text) → IfSome (option_map_or (with_service t) o (option_map (with_line t) (line_of t.routers text))) AreSeated
    by_service None = line_more_seated t text (line_of t.routers text) seated refl
    by_service (Some name) = service_seated t name seated

longer_seated : (t : Trace) (line : List ℕ) → AreSeated t → IfSome (longer_trace t line) AreSeated
longer_seated t line seated = by_text (utf8_of line)
  where
    by_text : (o : Option Text) → IfSome (option_and_then (with_text t) o) AreSeated
    by_text None = tt
    by_text (Some text) = text_seated t text seated

read_seated : (number : ℕ) (t : Trace) (lines : List (List ℕ)) → AreSeated t → IfOk (trace_on number t lines) AreSeated
read_seated number t [] seated = seated
read_seated number t (line ∷ lines) seated =
    ok_or AreSeated (λ longer. trace_on (number + 1) longer lines) (longer_trace t line) number (longer_seated t line seated) (λ longer more. read_seated (number + 1) longer lines more)

any_some : {A : Type 0} (o : Option A) → IfSome o (λ _. Unit {0})
any_some None = tt
any_some (Some x) = tt

routed_seated : (profile : Profile) (lines : List (List ℕ)) → IfOk (routed profile lines) AreSeated
routed_seated profile [] = tt
routed_seated profile (line ∷ lines) =
    ok_or (λ _. Unit {0}) (λ routers. trace_on 3 (trace_headed profile routers) lines) (option_and_then routers_of (utf8_of line)) 2 (any_some (option_and_then routers_of (utf8_of line)))
    (λ routers _. read_seated 3 (trace_headed profile routers) lines tt)

headed_seated : (lines : List (List ℕ)) → IfOk (headed lines) AreSeated
headed_seated [] = tt
headed_seated (line ∷ lines) =
    ok_or (λ _. Unit {0}) (λ profile. routed profile lines) (option_and_then profile_of (utf8_of line)) 1 (any_some (option_and_then profile_of (utf8_of line))) (λ profile _. routed_seated profile lines)

file_seated : (file : List ℕ) (t : Trace) → trace_of file ≡ Ok t → AreSeated t
file_seated file t e = subst (λ (r : Result Trace ℕ). IfOk r AreSeated) e (headed_seated (lines_of file))

-- ## The law

pub all_within : (changes : ℕ) (before lines : List Line) → AllPass (is_placed changes) before lines → Each (λ l. l.place ≤ changes) lines
all_within changes before [] all = tt
all_within changes before (line ∷ lines) all = (within changes before line all.0, all_within changes (before ++ line ∷ []) lines all.1)

changes_placed : (routers : ℕ) (lines : List Line) → Each (IsSeated routers) lines → Each (λ l. is_change l ≡ true → 0 < l.place) lines
changes_placed routers [] seated = tt
changes_placed routers (line ∷ lines) seated = (seated.0.placed, changes_placed routers lines seated.1)

all_right : (t : Trace) (before lines : List Line) → AllPass (by_itself t) before lines → Each (IsRight t) lines
all_right t before [] all = tt
all_right t before (line ∷ lines) all = (same_words_same line.recorded (parts space (due t line)) all.0, all_right t (before ++ line ∷ []) lines all.1)

right_all : (t : Trace) (before lines : List Line) → Each (IsRight t) lines → AllPass (by_itself t) before lines
right_all t before [] right = tt
right_all t before (line ∷ lines) right =
    (ap (λ (words : List Text). same_words words (parts space (due t line))) right.0 ∙ same_words_itself (parts space (due t line)), right_all t (before ++ line ∷ []) lines right.1)

passing_is_legal : (t : Trace) → AreSeated t → out_of_order t ≡ None → misplaced t ≡ None → wrong t ≡ None → IsLegal t
passing_is_legal t seated ordered placed right =
    let order = all_pass is_in_order (first_line t) [] t.lines ordered in
    let place = all_pass (is_placed (changes_in t.lines)) (first_line t) [] t.lines placed in
    let low = all_within (changes_in t.lines) [] t.lines place in
    record {
      ordered = λ before later line e. in_order (of_seat line.seat before) line (each_passes is_in_order [] t.lines before later line order e);
      placed = placed_all t.lines (λ p. once (changes_in t.lines) p [] t.lines place) low (changes_placed t.routers t.lines seated);
      seen = low;
      right = all_right t [] t.lines (all_pass (by_itself t) (first_line t) [] t.lines right);
    }

legal_is_ordered : (t : Trace) → IsLegal t → out_of_order t ≡ None
legal_is_ordered t legal =
    none_refused is_in_order (first_line t) [] t.lines (passes_each is_in_order [] t.lines (λ front later line e. follows_in_order (of_seat line.seat front) line (legal.ordered front later line e)))

legal_is_placed : (t : Trace) → IsLegal t → misplaced t ≡ None
legal_is_placed t legal =
    none_refused (is_placed (changes_in t.lines)) (first_line t) [] t.lines
    (placed_pass (changes_in t.lines) [] t.lines (permutation_differs (places_of t.lines) 1 (changes_in t.lines) legal.placed) legal.seen)

legal_is_right : (t : Trace) → IsLegal t → wrong t ≡ None
legal_is_right t legal = none_refused (by_itself t) (first_line t) [] t.lines (right_all t [] t.lines legal.right)

legal_gets_a_yes : (file : List ℕ) (t : Trace) (lines : ℕ) → IsLegalFile file t → length t.lines ≡ lines → verdict_of_file file ≡ Yes lines
legal_gets_a_yes file t lines legal count =
    ap verdict_read legal.read
    ∙ (λ i. judged (count i) (legal_is_ordered t legal.legal i) (legal_is_placed t legal.legal i) (legal_is_right t legal.legal i))

yes_is_legal : (file : List ℕ) (lines : ℕ) (r : Result Trace ℕ) → trace_of file ≡ r → verdict_read r ≡ Yes lines → IsLegalWithLines file lines
yes_is_legal file lines (Err number) read e = absurd (cc e)
yes_is_legal file lines (Ok t) read e = by_judged (out_of_order t) (misplaced t) (wrong t) refl refl refl e
  where
    by_judged : (a b c : Option ℕ) → out_of_order t ≡ a → misplaced t ≡ b → wrong t ≡ c → judged (length t.lines) a b c ≡ Yes lines → IsLegalWithLines file lines
    by_judged (Some n) b c is_a is_b is_c e = absurd (cc e)
    by_judged None (Some n) c is_a is_b is_c e = absurd (cc e)
    by_judged None None (Some n) is_a is_b is_c e = absurd (cc e)
    by_judged None None None is_a is_b is_c e = (t, record { read = read; legal = passing_is_legal t (file_seated file t read) is_a is_b is_c }, cc e)

pub legal_traces_get_a_yes : LegalTracesGetAYes
legal_traces_get_a_yes file lines = (λ e. yes_is_legal file lines (trace_of file) refl e, λ h. legal_gets_a_yes file h.0 lines h.1 h.2)
