-- Lines that are put at their places.
use Rattle.std.proofs.Common.{◌≡◌, ◌≢◌, ℕ, zero, suc, ◌+◌, ◌<◌, ◌≤◌, Bool, true, false, cond, Option, Some, None, List, [], ◌∷◌, ◌++◌, length, map, get_or, set, replicate, refl, sym, ap, ◌∙◌, append-nil, arith}
use Rattle.std.specs.Prelude.{◌==◌, ◌&&◌, ◌||◌, not, nat_le, find, filter, is_some, option_map, if◌then◌else◌}
use Rattle.std.specs.List.{list_any, range_with_len}
use Rattle.std.specs.Option.{option_or}
use Rattle.std.proofs.lemmas.Bool.{true≢false}
use Rattle.std.proofs.lemmas.Bool.Decides.{nat_tests}
use Rattle.std.proofs.lemmas.List.{length-map, map-set}
use Rattle.std.proofs.lemmas.List.Elements.{filter-append}
use Rattle.std.proofs.lemmas.List.Folds.{find-append}
use Rattle.std.proofs.lemmas.List.FromFn.{get_or-map-range_with_len, length-range_with_len}
use Rattle.trace_lines.specs.Lines.{Line}
use Rattle.trace_check_core.specs.Legality.{is_change}
use Rattle.trace_check_core.specs.Placing.{LinesThere, NumberedLine, is_read_at, line_seen, lines_there, no_line_there, numbered, place_seen, placed_lines, with_line_there}
use Rattle.trace_check_core.specs.Verdicts.{is_change_at, is_placed}
use Rattle.trace_check_core.specs.declared.places.NumberedLine.{NumberedLine as KeptWithNumber}
use Rattle.trace_check_core.specs.declared.places.PlaceLines.{PlaceLines}

-- ## Numbers of lines

pub numbered_more : (number : ℕ) (lines : List Line) (line : Line) → numbered number (lines ++ line ∷ []) ≡ numbered number lines ++ record { number = number + length lines; line = line } ∷ []
numbered_more number [] line = ap (λ (n : ℕ). record { number = n; line = line } ∷ []) (omega arith)
numbered_more number (other ∷ lines) line =
    ap (λ (ns : List NumberedLine). record { number = number; line = other } ∷ ns)
    (numbered_more (number + 1) lines line ∙ ap (λ (n : ℕ). numbered (number + 1) lines ++ record { number = n; line = line } ∷ []) (omega arith))

-- ## Functions that differ at one place

not_there : {X : Type 0} (F G : ℕ → X) (p : ℕ) → ((q : ℕ) → q ≢ p → G q ≡ F q) → (a k : ℕ) → p < a → map G (range_with_len a k) ≡ map F (range_with_len a k)
not_there F G p same a zero above = refl
not_there F G p same a (suc k) above =
    let other : a ≢ p = λ e. omega (arith, above, e) in
    λ i. same a other i ∷ not_there F G p same (a + 1) k (omega (arith, above)) i

changed_there : {X : Type 0} (F G : ℕ → X) (p : ℕ) → ((q : ℕ) → q ≢ p → G q ≡ F q) → (a k j : ℕ) → p ≡ a + j → j < k → map G (range_with_len a k) ≡ set (map F (range_with_len a k)) j (G p)
changed_there F G p same a zero j e within = absurd (omega (arith, within))
changed_there F G p same a (suc k) zero e within =
    let first : a ≡ p = omega (arith, e) in
    λ i. ap G first i ∷ not_there F G p same (a + 1) k (omega (arith, e)) i
changed_there F G p same a (suc k) (suc j) e within =
    let other : a ≢ p = λ f. omega (arith, e, f) in
    let next : p ≡ a + 1 + j = omega (arith, e) in
    λ i. same a other i ∷ changed_there F G p same (a + 1) k j next (omega (arith, within)) i

-- ## One line more

or_nothing : {X : Type 0} (o : Option X) → option_or o None ≡ o
or_nothing None = refl
or_nothing (Some x) = refl

there : (c d : Option NumberedLine) (r q : List NumberedLine) → c ≡ d → r ≡ q → ◌≡◌ {A = LinesThere} (record { change = c; reads = r }) (record { change = d; reads = q })
there c d r q e f = λ i. record { change = e i; reads = f i }

find_more : (place : ℕ) (ns : List NumberedLine) (n : NumberedLine) → find (λ m. is_change_at place m.line) (ns ++ n ∷ []) ≡ option_or (find (λ m. is_change_at place m.line) ns) (cond (is_change_at place n.line) (Some n) None)
find_more place ns n = find-append (λ (m : NumberedLine). is_change_at place m.line) ns (n ∷ [])

filter_more : (place : ℕ) (ns : List NumberedLine) (n : NumberedLine) → filter (λ m. is_read_at place m.line) (ns ++ n ∷ []) ≡ filter (λ m. is_read_at place m.line) ns ++ cond (is_read_at place n.line) (n ∷ []) []
filter_more place ns n = filter-append (λ (m : NumberedLine). is_read_at place m.line) ns (n ∷ [])

-- elsewhere nothing changes
elsewhere : (ns : List NumberedLine) (n : NumberedLine) (place : ℕ) → place ≢ n.line.place → lines_there (ns ++ n ∷ []) place ≡ lines_there ns place
elsewhere ns n place other =
    let apart : (n.line.place == place) ≡ false = grind (arith, nat_tests, other) in
    let no_change : is_change_at place n.line ≡ false = ap (λ (b : Bool). is_change n.line && b) apart ∙ and_no (is_change n.line) in
    let no_read : is_read_at place n.line ≡ false = ap (λ (b : Bool). not (is_change n.line) && b) apart ∙ and_no (not (is_change n.line)) in
    there (find (λ m. is_change_at place m.line) (ns ++ n ∷ [])) (find (λ m. is_change_at place m.line) ns) (filter (λ m. is_read_at place m.line) (ns ++ n ∷ [])) (filter (λ m. is_read_at place m.line) ns)
    (find_more place ns n ∙ ap (λ (b : Bool). option_or (find (λ m. is_change_at place m.line) ns) (cond b (Some n) None)) no_change ∙ or_nothing (find (λ m. is_change_at place m.line) ns))
    (filter_more place ns n ∙ ap (λ (b : Bool). filter (λ m. is_read_at place m.line) ns ++ cond b (n ∷ []) []) no_read ∙ append-nil (filter (λ m. is_read_at place m.line) ns))
  where
    and_no : (b : Bool) → (b && false) ≡ false
    and_no true = refl
    and_no false = refl

-- no change stands there yet, if the line is one
abbrev pub IsFree : List NumberedLine → NumberedLine → Type 0
IsFree ns n = is_change n.line ≡ true → (lines_there ns n.line.place).change ≡ None

here : (ns : List NumberedLine) (n : NumberedLine) → IsFree ns n → lines_there (ns ++ n ∷ []) n.line.place ≡ with_line_there (lines_there ns n.line.place) n
here ns n free = by_kind (is_change n.line) refl
  where
    same : (n.line.place == n.line.place) ≡ true
    same = grind (arith, nat_tests)

    and_yes : (b : Bool) → (b && true) ≡ b
    and_yes true = refl
    and_yes false = refl

    changes : Option NumberedLine
    changes = find (λ m. is_change_at n.line.place m.line) ns

    reads : List NumberedLine
    reads = filter (λ m. is_read_at n.line.place m.line) ns

    is_that : is_change_at n.line.place n.line ≡ is_change n.line
    is_that = ap (λ (b : Bool). is_change n.line && b) same ∙ and_yes (is_change n.line)

    is_read : is_read_at n.line.place n.line ≡ not (is_change n.line)
    is_read = ap (λ (b : Bool). not (is_change n.line) && b) same ∙ and_yes (not (is_change n.line))

    both : (b : Bool) → is_change n.line ≡ b → lines_there (ns ++ n ∷ []) n.line.place ≡ record { change = option_or changes (cond b (Some n) None); reads = reads ++ cond (not b) (n ∷ []) [] }
    both b e =
        there (find (λ m. is_change_at n.line.place m.line) (ns ++ n ∷ [])) (option_or changes (cond b (Some n) None)) (filter (λ m. is_read_at n.line.place m.line) (ns ++ n ∷ [])) (reads ++ cond (not b) (n ∷ []) [])
        (find_more n.line.place ns n ∙ ap (λ (c : Bool). option_or changes (cond c (Some n) None)) (is_that ∙ e))
        (filter_more n.line.place ns n ∙ ap (λ (c : Bool). reads ++ cond c (n ∷ []) []) (is_read ∙ ap not e))

    with_kind : (b : Bool) → is_change n.line ≡ b → with_line_there (lines_there ns n.line.place) n ≡ (if b then record { change = Some n; reads = reads } else record { change = changes; reads = reads ++ n ∷ [] })
    with_kind b e = ap (λ (c : Bool). if c then record (lines_there ns n.line.place) { change = Some n } else record (lines_there ns n.line.place) { reads = reads ++ n ∷ [] }) e

    by_kind : (b : Bool) → is_change n.line ≡ b → lines_there (ns ++ n ∷ []) n.line.place ≡ with_line_there (lines_there ns n.line.place) n
    by_kind true e =
        both true e ∙ there (option_or changes (Some n)) (Some n) (reads ++ []) reads (ap (λ (o : Option NumberedLine). option_or o (Some n)) (free e)) (append-nil reads) ∙ sym (with_kind true e)
    by_kind false e = both false e ∙ there (option_or changes None) changes (reads ++ n ∷ []) (reads ++ n ∷ []) (or_nothing changes) refl ∙ sym (with_kind false e)

-- the lines by place, with one more
pub placed_more : (changes : ℕ) (ns : List NumberedLine) (n : NumberedLine) → n.line.place ≤ changes → IsFree ns n →
    placed_lines changes (ns ++ n ∷ []) ≡ set (placed_lines changes ns) n.line.place (with_line_there (lines_there ns n.line.place) n)
placed_more changes ns n within free =
    changed_there (lines_there ns) (lines_there (ns ++ n ∷ [])) n.line.place (elsewhere ns n) 0 (changes + 1) n.line.place (omega arith) (omega (arith, within))
    ∙ ap (set (placed_lines changes ns) n.line.place) (here ns n free)

-- ## In the code

pub seen_at : (changes : ℕ) (ns : List NumberedLine) (places : List PlaceLines) (place : ℕ) (p : PlaceLines) → map place_seen places ≡ placed_lines changes ns → place ≤ changes → place < length places → p ≡ get_or places place p → place_seen p ≡ lines_there ns place
seen_at changes ns places place p seen within inside is =
    ap place_seen is ∙ sym (get_map places place p) ∙ ap (λ (ls : List LinesThere). get_or ls place (place_seen p)) seen
    ∙ get_or-map-range_with_len (lines_there ns) 0 (changes + 1) place place (place_seen p) (omega (arith, within)) (omega arith)
  where
    get_map : (ps : List PlaceLines) (k : ℕ) (d : PlaceLines) → get_or (map place_seen ps) k (place_seen d) ≡ place_seen (get_or ps k d)
    get_map [] k d = refl
    get_map (q ∷ ps) zero d = refl
    get_map (q ∷ ps) (suc k) d = get_map ps k d

pub placed_step : (changes : ℕ) (ns : List NumberedLine) (n : NumberedLine) (places : List PlaceLines) (p : PlaceLines) → map place_seen places ≡ placed_lines changes ns → n.line.place ≤ changes → IsFree ns n →
    place_seen p ≡ with_line_there (lines_there ns n.line.place) n → map place_seen (set places n.line.place p) ≡ placed_lines changes (ns ++ n ∷ [])
placed_step changes ns n places p seen within free is =
    map-set place_seen places n.line.place p ∙ ap (λ (ls : List LinesThere). set ls n.line.place (place_seen p)) seen
    ∙ ap (set (placed_lines changes ns) n.line.place) is ∙ sym (placed_more changes ns n within free)

pub placed_none : (changes count : ℕ) (number : ℕ) → count ≡ changes + 1 → replicate count no_line_there ≡ placed_lines changes (numbered number [])
placed_none changes count number e = ap (λ (n : ℕ). replicate n no_line_there) e ∙ all_none 0 (changes + 1)
  where
    all_none : (a k : ℕ) → replicate k no_line_there ≡ map (lines_there []) (range_with_len a k)
    all_none a zero = refl
    all_none a (suc k) = ap (λ (ls : List LinesThere). no_line_there ∷ ls) (all_none (a + 1) k)

-- ## A change where another one stands

is_some_seen : (o : Option KeptWithNumber) → is_some (option_map line_seen o) ≡ is_some o
is_some_seen None = refl
is_some_seen (Some n) = refl

pub found_any : (place number : ℕ) (lines : List Line) → is_some (lines_there (numbered number lines) place).change ≡ list_any (is_change_at place) lines
found_any place number [] = refl
found_any place number (line ∷ lines) = by_test (is_change_at place line) (found_any place (number + 1) lines)
  where
    by_test : (b : Bool) → is_some (lines_there (numbered (number + 1) lines) place).change ≡ list_any (is_change_at place) lines →
        is_some (cond b (Some (record { number = number; line = line })) (lines_there (numbered (number + 1) lines) place).change) ≡ (b || list_any (is_change_at place) lines)
    by_test true rest = refl
    by_test false rest = rest

-- ## A line more in the code

pub count_places : (changes : ℕ) (ns : List NumberedLine) (places : List PlaceLines) → map place_seen places ≡ placed_lines changes ns → length places ≡ changes + 1
count_places changes ns places seen =
    sym (length-map places place_seen) ∙ ap length seen ∙ length-map (range_with_len 0 (changes + 1)) (lines_there ns) ∙ length-range_with_len 0 (changes + 1)

-- a line above all changes
pub above_all : (changes first : ℕ) (before : List Line) (line : Line) (places : List PlaceLines) (place : ℕ) → map place_seen places ≡ placed_lines changes (numbered first before) →
    place ≡ line.place → length places ≤ place → is_placed changes before line ≡ false
above_all changes first before line places place seen stands above =
    let count = count_places changes (numbered first before) places seen in
    let high : changes < line.place = omega (arith, count, stands, above) in
    let no : nat_le line.place changes ≡ false = grind (arith, nat_tests, high) in
    ap (λ (b : Bool). b && not (is_change line && list_any (is_change_at line.place) before)) no

-- a place of the code, as it is seen
pub record IsAt (changes first : ℕ) (before : List Line) (places : List PlaceLines) (place : ℕ) (p : PlaceLines) : Type 0 where
  pub seen : map place_seen places ≡ placed_lines changes (numbered first before)
  pub inside : place < length places
  pub is : p ≡ get_or places place p

at_most : (changes first : ℕ) (before : List Line) (places : List PlaceLines) (place : ℕ) (p : PlaceLines) → IsAt changes first before places place p → place ≤ changes
at_most changes first before places place p h = let count = count_places changes (numbered first before) places h.seen in omega (arith, count, h.inside)

there_seen : (changes first : ℕ) (before : List Line) (places : List PlaceLines) (place : ℕ) (p : PlaceLines) → IsAt changes first before places place p → place_seen p ≡ lines_there (numbered first before) place
there_seen changes first before places place p h = seen_at changes (numbered first before) places place p h.seen (at_most changes first before places place p h) h.inside h.is

taken_there : (changes first : ℕ) (before : List Line) (line : Line) (places : List PlaceLines) (place : ℕ) (p : PlaceLines) → IsAt changes first before places place p → place ≡ line.place →
    is_placed changes before line ≡ not (is_change line && is_some p.change)
taken_there changes first before line places place p h stands =
    let low = at_most changes first before places place p h in
    let yes : nat_le line.place changes ≡ true = grind (arith, nat_tests, stands, low) in
    let any : list_any (is_change_at line.place) before ≡ is_some p.change =
    ap (λ (n : ℕ). list_any (is_change_at n) before) (sym stands) ∙ sym (found_any place first before)
    ∙ ap (λ (t : LinesThere). is_some t.change) (sym (there_seen changes first before places place p h)) ∙ is_some_seen p.change in
    ap (λ (b : Bool). b && not (is_change line && list_any (is_change_at line.place) before)) yes
    ∙ ap (λ (b : Bool). not (is_change line && b)) any

-- a change where another one stands
pub taken_refused : (changes first : ℕ) (before : List Line) (line : Line) (places : List PlaceLines) (place : ℕ) (p : PlaceLines) → IsAt changes first before places place p → place ≡ line.place →
    (is_change line && is_some p.change) ≡ true → is_placed changes before line ≡ false
taken_refused changes first before line places place p h stands taken = taken_there changes first before line places place p h stands ∙ ap not taken

pub free_passes : (changes first : ℕ) (before : List Line) (line : Line) (places : List PlaceLines) (place : ℕ) (p : PlaceLines) → IsAt changes first before places place p → place ≡ line.place →
    (is_change line && is_some p.change) ≡ false → is_placed changes before line ≡ true
free_passes changes first before line places place p h stands free = taken_there changes first before line places place p h stands ∙ ap not free

no_change : (o : Option KeptWithNumber) → is_some o ≡ false → option_map line_seen o ≡ None
no_change None e = refl
no_change (Some n) e = absurd (true≢false e)

not_both : (a b : Bool) → (a && b) ≡ false → a ≡ true → b ≡ false
not_both true b e is = e
not_both false b e is = absurd (true≢false (sym is))

pub placed_with : (changes first : ℕ) (before : List Line) (line : Line) (number : ℕ) (places : List PlaceLines) (place : ℕ) (p q : PlaceLines) → IsAt changes first before places place p →
    place ≡ line.place → (is_change line && is_some p.change) ≡ false → number ≡ first + length before →
    place_seen q ≡ with_line_there (place_seen p) (record { number = number; line = line }) → map place_seen (set places place q) ≡ placed_lines changes (numbered first (before ++ line ∷ []))
placed_with changes first before line number places place p q h stands free counted is =
    let ns : List NumberedLine = numbered first before in
    let n : NumberedLine = record { number = number; line = line } in
    let low = at_most changes first before places place p h in
    let here : place_seen p ≡ lines_there ns line.place = there_seen changes first before places place p h ∙ ap (lines_there ns) stands in
    let alone : IsFree ns n = λ change. ap (λ (t : LinesThere). t.change) (sym here) ∙ no_change p.change (not_both (is_change line) (is_some p.change) free change) in
    let told : place_seen q ≡ with_line_there (lines_there ns line.place) n = is ∙ ap (λ (t : LinesThere). with_line_there t n) here in
    ap (λ (k : ℕ). map place_seen (set places k q)) stands
    ∙ placed_step changes ns n places q h.seen (omega (arith, stands, low)) alone told
    ∙ ap (λ (k : ℕ). placed_lines changes (ns ++ record { number = k; line = line } ∷ [])) counted
    ∙ ap (placed_lines changes) (sym (numbered_more first before line))

-- what stands at an index is one thing
pub same_there : (places : List PlaceLines) (i : ℕ) (p q : PlaceLines) → i < length places → p ≡ get_or places i p → q ≡ get_or places i q → p ≡ q
same_there [] i p q within e f = absurd (omega (arith, within))
same_there (x ∷ places) zero p q within e f = e ∙ sym f
same_there (x ∷ places) (suc i) p q within e f = same_there places i p q (omega (arith, within)) e f
