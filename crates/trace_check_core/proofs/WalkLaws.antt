-- The walk along the lines of a trace in order of place finds the first line that is wrong.
use Rattle.std.proofs.Common.{◌≡◌, ◌⊎◌, inl, inr, ℕ, zero, suc, ◌+◌, ◌-◌, ◌<◌, ◌≤◌, Bool, true, false, cond, Option, Some, None, List, [], ◌∷◌, ◌++◌, map, filter, flat_map, refl, sym, ap, ◌∙◌, subst, append-nil, arith}
use Rattle.std.specs.Prelude.{◌==◌, ◌&&◌, ◌||◌, not, nat_le, find, is_some, if◌then◌else◌}
use Rattle.std.specs.List.{list_any, range_with_len, AllByRecursion as Each}
use Rattle.std.specs.Option.{option_to_list}
use Rattle.std.proofs.Math.Bool.{and-true}
use Rattle.std.proofs.lemmas.Bool.{and_parts, cond_both, eqb-true, or_from, true≢false, or_left, or_right}
use Rattle.std.proofs.lemmas.Bool.Decides.{nat_tests}
use Rattle.std.proofs.lemmas.List.Folds.{list_any-append}
use Rattle.seq_bus_core.specs.BusState.{BusState}
use Rattle.seq_bus_core.specs.Histories.{History, after, opening}
use Rattle.seq_bus_core.proofs.Extending.{range_more, state_more}
use Rattle.seq_bus_core.proofs.Lists.{find_passes}
use Rattle.registry.proofs.Lists.{flat_push}
use Rattle.trace_lines.specs.Lines.{Line, Subject, Made, Asked, Routed}
use Rattle.trace_check_core.specs.KeptLines.{IsSeated}
use Rattle.trace_check_core.specs.Legality.{changes_in, entries_at, entries_if_at, entries_of, history_to, is_change, number_made, places_before, state_at}
use Rattle.trace_check_core.specs.Placing.{LinesThere, NumberedLine, is_read_at, lines_by_place, lines_there, numbered}
use Rattle.trace_check_core.specs.Traces.{Trace}
use Rattle.trace_check_core.specs.Verdicts.{first_line, first_refused, is_change_at, is_placed, is_right, misplaced, wrong}
use Rattle.trace_check_core.specs.Walks.{Walk, change_entries, in_turn, least_with, lesser, records_told, state_before, walked, walked_along, whole_walk}

-- ## Lines that all pass

abbrev pub AllPass : (List Line → Line → Bool) → List Line → List Line → Type 0
AllPass test before [] = Unit {0}
AllPass test before (line ∷ lines) = (test before line ≡ true) × AllPass test (before ++ line ∷ []) lines

pub all_pass : (test : List Line → Line → Bool) (number : ℕ) (before lines : List Line) → first_refused test number before lines ≡ None → AllPass test before lines
all_pass test number before [] e = tt
all_pass test number before (line ∷ lines) e = by_test (test before line) refl e (all_pass test (number + 1) (before ++ line ∷ []) lines)
  where
    by_test : (b : Bool) → test before line ≡ b → cond b (first_refused test (number + 1) (before ++ line ∷ []) lines) (Some number) ≡ None →
        (first_refused test (number + 1) (before ++ line ∷ []) lines ≡ None → AllPass test (before ++ line ∷ []) lines) → AllPass test before (line ∷ lines)
    by_test true passes e more = (passes, more e)
    by_test false passes e more = absurd (cc e)

not_both : (a b : Bool) → a ≡ true → not (a && b) ≡ true → b ≡ false
not_both true true is e = absurd (true≢false (sym e))
not_both true false is e = refl
not_both false b is e = absurd (true≢false (sym is))

pub within : (changes : ℕ) (before : List Line) (line : Line) → is_placed changes before line ≡ true → line.place ≤ changes
within changes before line e = let both = and_parts (nat_le line.place changes) (not (is_change line && list_any (is_change_at line.place) before)) e in grind (arith, both.0)

alone : (changes : ℕ) (before : List Line) (line : Line) → is_placed changes before line ≡ true → is_change line ≡ true → list_any (is_change_at line.place) before ≡ false
alone changes before line e is =
    let both = and_parts (nat_le line.place changes) (not (is_change line && list_any (is_change_at line.place) before)) e in
    not_both (is_change line) (list_any (is_change_at line.place) before) is both.1

none_first : (a b : Bool) → (a || b) ≡ false → a ≡ false
none_first true b e = absurd (true≢false e)
none_first false b e = refl

none_second : (a b : Bool) → (a || b) ≡ false → b ≡ false
none_second true b e = absurd (true≢false e)
none_second false b e = e

any_more : {X : Type 0} (test : X → Bool) (xs : List X) (x : X) → list_any test xs ≡ true → list_any test (xs ++ x ∷ []) ≡ true
any_more test [] x e = absurd (true≢false (sym e))
any_more test (y ∷ xs) x e = by_test (test y) e (any_more test xs x)
  where
    by_test : (b : Bool) → (b || list_any test xs) ≡ true → (list_any test xs ≡ true → list_any test (xs ++ x ∷ []) ≡ true) → (b || list_any test (xs ++ x ∷ [])) ≡ true
    by_test true e more = refl
    by_test false e more = more e

any_last : {X : Type 0} (test : X → Bool) (xs : List X) (x : X) → test x ≡ true → list_any test (xs ++ x ∷ []) ≡ true
any_last test [] x e = or_left (test x) false e
any_last test (y ∷ xs) x e = or_right (test y) (list_any test (xs ++ x ∷ [])) (any_last test xs x e)

-- no change stands where an earlier one stands
no_later : (changes place : ℕ) (before lines : List Line) → AllPass (is_placed changes) before lines → list_any (is_change_at place) before ≡ true → list_any (is_change_at place) lines ≡ false
no_later changes place before [] all there = refl
no_later changes place before (line ∷ lines) all there = by_test (is_change_at place line) refl (no_later changes place (before ++ line ∷ []) lines all.1 (any_more (is_change_at place) before line there))
  where
    by_test : (b : Bool) → is_change_at place line ≡ b → list_any (is_change_at place) lines ≡ false → (b || list_any (is_change_at place) lines) ≡ false
    by_test true e others =
        let both = and_parts (is_change line) (line.place == place) e in
        let same : line.place ≡ place = eqb-true line.place place both.1 in
        absurd (true≢false (sym there ∙ ap (λ (p : ℕ). list_any (is_change_at p) before) (sym same) ∙ alone changes before line all.0 both.0))
    by_test false e others = others

-- at most one change stands at a place
abbrev pub Once : ℕ → List Line → Type 0
Once place [] = Unit {0}
Once place (line ∷ lines) = (is_change_at place line ≡ true → list_any (is_change_at place) lines ≡ false) × Once place lines

pub once : (changes place : ℕ) (before lines : List Line) → AllPass (is_placed changes) before lines → Once place lines
once changes place before [] all = tt
once changes place before (line ∷ lines) all =
    (λ is. no_later changes place (before ++ line ∷ []) lines all.1 (any_last (is_change_at place) before line is), once changes place (before ++ line ∷ []) lines all.1)

-- ## The entries of a place

nothing_either : (b : Bool) → ◌≡◌ {A = History} (if b then [] else []) []
nothing_either true = refl
nothing_either false = refl

no_entry : (seat place at : ℕ) (subject : Subject) → (is_some (number_made subject) && (at == place)) ≡ false → ◌≡◌ {A = History} (if at == place then entries_of seat subject else []) []
no_entry seat place at (Made number change) e = let apart : (at == place) ≡ false = e in rw apart refl
no_entry seat place at (Asked query) e = nothing_either (at == place)
no_entry seat place at (Routed facts) e = nothing_either (at == place)

no_entries : (place : ℕ) (lines : List Line) → list_any (is_change_at place) lines ≡ false → entries_at lines place ≡ []
no_entries place [] e = refl
no_entries place (line ∷ lines) e =
    ap (λ (h : History). h ++ entries_at lines place) (no_entry line.seat place line.place line.subject (none_first (is_change_at place line) (list_any (is_change_at place) lines) e))
    ∙ no_entries place lines (none_second (is_change_at place line) (list_any (is_change_at place) lines) e)

pub found_entries : (place number : ℕ) (lines : List Line) → Once place lines → entries_at lines place ≡ change_entries (find (λ n. is_change_at place n.line) (numbered number lines))
found_entries place number [] one = refl
found_entries place number (line ∷ lines) one = by_test (is_change_at place line) refl (found_entries place (number + 1) lines one.1)
  where
    by_test : (b : Bool) → is_change_at place line ≡ b →
        entries_at lines place ≡ change_entries (find (λ n. is_change_at place n.line) (numbered (number + 1) lines)) →
        entries_if_at place line ++ entries_at lines place ≡ change_entries (cond b (Some (record { number = number; line = line })) (find (λ n. is_change_at place n.line) (numbered (number + 1) lines)))
    by_test true is others =
        let both = and_parts (is_change line) (line.place == place) is in
        ap (λ (b : Bool). (if b then entries_of line.seat line.subject else []) ++ entries_at lines place) both.1
        ∙ ap (λ (h : History). entries_of line.seat line.subject ++ h) (no_entries place lines (one.0 is)) ∙ append-nil (entries_of line.seat line.subject)
    by_test false is others =
        ap (λ (h : History). h ++ entries_at lines place) (no_entry line.seat place line.place line.subject is) ∙ others

-- ## The bus at each place

none_at_opening : (routers : ℕ) (lines : List Line) → Each (IsSeated routers) lines → list_any (is_change_at 0) lines ≡ false
none_at_opening routers [] seated = refl
none_at_opening routers (line ∷ lines) seated = by_test (is_change_at 0 line) refl (none_at_opening routers lines seated.1)
  where
    by_test : (b : Bool) → is_change_at 0 line ≡ b → list_any (is_change_at 0) lines ≡ false → (b || list_any (is_change_at 0) lines) ≡ false
    by_test true e others =
        let both = and_parts (is_change line) (line.place == 0) e in
        let some : 0 < line.place = seated.0.placed both.0 in
        let none : line.place ≡ 0 = eqb-true line.place 0 both.1 in
        absurd (omega (arith, some, none))
    by_test false e others = others

history_next : (lines : List Line) (place : ℕ) → history_to lines (suc place) ≡ history_to lines place ++ entries_at lines (suc place)
history_next lines place =
    let one_more : suc place ≡ place + 1 = omega arith in
    let last : 1 + place ≡ suc place = omega arith in
    let more : range_with_len 1 (suc place) ≡ range_with_len 1 place ++ suc place ∷ [] = ap (range_with_len 1) one_more ∙ range_more 1 place 1 ∙ ap (λ (n : ℕ). range_with_len 1 place ++ n ∷ []) last in
    ap (flat_map (entries_at lines)) more ∙ flat_push (entries_at lines) (range_with_len 1 place) (suc place)

pub state_next : (t : Trace) (place : ℕ) → Each (IsSeated t.routers) t.lines → state_at t place ≡ after (state_before t place) (entries_at t.lines place)
state_next t zero seated = ap (after (opening t.profile t.routers t.services)) (sym (no_entries 0 t.lines (none_at_opening t.routers t.lines seated)))
state_next t (suc place) seated =
    ap (after (opening t.profile t.routers t.services)) (history_next t.lines place)
    ∙ state_more (opening t.profile t.routers t.services) (history_to t.lines place) (entries_at t.lines (suc place))

-- ## What the walk finds

abbrev least_on : Trace → Option ℕ → NumberedLine → Option ℕ
least_on t least n = if is_right t n.line then least else Some (lesser least n.number)

abbrev least_of : Trace → Option ℕ → List NumberedLine → Option ℕ
least_of t least [] = least
least_of t least (n ∷ ns) = least_of t (least_on t least n) ns

none_made : (o : Option ℕ) → is_some o ≡ false → o ≡ None
none_made None e = refl
none_made (Some number) e = absurd (true≢false e)

before_change : (place : ℕ) (o : Option ℕ) → is_some o ≡ true → places_before place o ≡ place - 1
before_change place None e = absurd (true≢false (sym e))
before_change place (Some number) e = refl

read_still : (s : BusState) (seat : ℕ) (subject : Subject) → is_some (number_made subject) ≡ false → after s (entries_of seat subject) ≡ s
read_still s seat (Made number change) e = absurd (true≢false e)
read_still s seat (Asked query) e = refl
read_still s seat (Routed facts) e = refl

right_there : (t : Trace) (line : Line) (place : ℕ) → places_before line.place (number_made line.subject) ≡ place → is_right t line ≡ records_told (state_at t place) line
right_there t line place e = ap (λ (p : ℕ). records_told (state_at t p) line) e

walk_both : (b c : BusState) (l m : Option ℕ) → b ≡ c → l ≡ m → ◌≡◌ {A = Walk} (record { bus = b; least = l }) (record { bus = c; least = m })
walk_both b c l m e f = λ i. record { bus = e i; least = f i }

walked_read : (t : Trace) (place : ℕ) (least : Option ℕ) (n : NumberedLine) → is_read_at place n.line ≡ true → walked (record { bus = state_at t place; least = least }) n ≡ record { bus = state_at t place; least = least_on t least n }
walked_read t place least n is =
    let both = and_parts (not (is_change n.line)) (n.line.place == place) is in
    let read : is_change n.line ≡ false = not_both true (is_change n.line) refl both.0 in
    let there : n.line.place ≡ place = eqb-true n.line.place place both.1 in
    let before : places_before n.line.place (number_made n.line.subject) ≡ place = ap (places_before n.line.place) (none_made (number_made n.line.subject) read) ∙ there in
    walk_both (after (state_at t place) (entries_of n.line.seat n.line.subject)) (state_at t place) (least_with least (state_at t place) n) (least_on t least n)
    (read_still (state_at t place) n.line.seat n.line.subject read)
    (ap (λ (b : Bool). if b then least else Some (lesser least n.number)) (sym (right_there t n.line place before)))

walk_reads : (t : Trace) (place : ℕ) (least : Option ℕ) (ns : List NumberedLine) →
    walked_along (record { bus = state_at t place; least = least }) (filter (λ n. is_read_at place n.line) ns) ≡ record { bus = state_at t place; least = least_of t least (filter (λ n. is_read_at place n.line) ns) }
walk_reads t place least [] = refl
walk_reads t place least (n ∷ ns) = by_test (is_read_at place n.line) refl (walk_reads t place (least_on t least n) ns) (walk_reads t place least ns)
  where
    others : List NumberedLine
    others = filter (λ m. is_read_at place m.line) ns

    Walks : Option ℕ → Type 0
    Walks l = walked_along (record { bus = state_at t place; least = l }) others ≡ record { bus = state_at t place; least = least_of t l others }

    by_test : (b : Bool) → is_read_at place n.line ≡ b → Walks (least_on t least n) → Walks least →
        walked_along (record { bus = state_at t place; least = least }) (cond b (n ∷ others) others) ≡ record { bus = state_at t place; least = least_of t least (cond b (n ∷ others) others) }
    by_test true is there elsewhere = ap (λ (w : Walk). walked_along w others) (walked_read t place least n is) ∙ there
    by_test false is there elsewhere = elsewhere

walk_turn : (t : Trace) (place : ℕ) (s : BusState) (least : Option ℕ) (o : Option NumberedLine) (ns : List NumberedLine) →
    state_at t place ≡ after s (change_entries o) → ((n : NumberedLine) → o ≡ Some n → is_right t n.line ≡ records_told s n.line) →
    walked_along (record { bus = s; least = least }) (option_to_list o ++ filter (λ n. is_read_at place n.line) ns)
    ≡ record { bus = state_at t place; least = least_of t least (option_to_list o ++ filter (λ n. is_read_at place n.line) ns) }
walk_turn t place s least None ns next right =
    ap (λ (b : BusState). walked_along (record { bus = b; least = least }) (filter (λ n. is_read_at place n.line) ns)) (sym next) ∙ walk_reads t place least ns
walk_turn t place s least (Some n) ns next right =
    ap (λ (w : Walk). walked_along w (filter (λ n. is_read_at place n.line) ns))
    (walk_both (after s (entries_of n.line.seat n.line.subject)) (state_at t place) (least_with least s n) (least_on t least n) (sym next) (ap (λ (b : Bool). if b then least else Some (lesser least n.number)) (sym (right n refl))))
    ∙ walk_reads t place (least_on t least n) ns

-- ## Along all places

along_both : (w : Walk) (xs ys : List NumberedLine) → walked_along w (xs ++ ys) ≡ walked_along (walked_along w xs) ys
along_both w [] ys = refl
along_both w (x ∷ xs) ys = along_both (walked w x) xs ys

least_both : (t : Trace) (least : Option ℕ) (xs ys : List NumberedLine) → least_of t least (xs ++ ys) ≡ least_of t (least_of t least xs) ys
least_both t least [] ys = refl
least_both t least (x ∷ xs) ys = least_both t (least_on t least x) xs ys

abbrev ns_of : Trace → List NumberedLine
ns_of t = numbered (first_line t) t.lines

change_at : (t : Trace) (place : ℕ) (n : NumberedLine) → find (λ m. is_change_at place m.line) (ns_of t) ≡ Some n → is_right t n.line ≡ records_told (state_before t place) n.line
change_at t place n e =
    let both = and_parts (is_change n.line) (n.line.place == place) (find_passes (λ (m : NumberedLine). is_change_at place m.line) (ns_of t) n e) in
    let there : n.line.place ≡ place = eqb-true n.line.place place both.1 in
    ap (λ (p : ℕ). records_told (state_at t p) n.line) (before_change n.line.place (number_made n.line.subject) both.0 ∙ ap (λ (p : ℕ). p - 1) there)
    ∙ ap (λ (s : BusState). records_told s n.line) (one_before place)
  where
    one_before : (p : ℕ) → state_at t (p - 1) ≡ state_before t p
    one_before zero = refl
    one_before (suc p) = let less : suc p - 1 ≡ p = omega arith in ap (state_at t) less

walk_place : (t : Trace) (place : ℕ) (least : Option ℕ) → Each (IsSeated t.routers) t.lines → ((p : ℕ) → Once p t.lines) →
    walked_along (record { bus = state_before t place; least = least }) (in_turn (lines_there (ns_of t) place)) ≡ record { bus = state_at t place; least = least_of t least (in_turn (lines_there (ns_of t) place)) }
walk_place t place least seated one =
    walk_turn t place (state_before t place) least (find (λ m. is_change_at place m.line) (ns_of t)) (ns_of t)
    (state_next t place seated ∙ ap (after (state_before t place)) (found_entries place (first_line t) t.lines (one place)))
    (change_at t place)

walk_places : (t : Trace) (place count : ℕ) (least : Option ℕ) → Each (IsSeated t.routers) t.lines → ((p : ℕ) → Once p t.lines) →
    (walked_along (record { bus = state_before t place; least = least }) (flat_map in_turn (map (lines_there (ns_of t)) (range_with_len place count)))).least
    ≡ least_of t least (flat_map in_turn (map (lines_there (ns_of t)) (range_with_len place count)))
walk_places t place zero least seated one = refl
walk_places t place (suc count) least seated one =
    let here : List NumberedLine = in_turn (lines_there (ns_of t) place) in
    let rest : List NumberedLine = flat_map in_turn (map (lines_there (ns_of t)) (range_with_len (place + 1) count)) in
    let one_more : suc place ≡ place + 1 = omega arith in
    let next : state_at t place ≡ state_before t (place + 1) = ap (state_before t) one_more in
    ap (λ (w : Walk). w.least) (along_both (record { bus = state_before t place; least = least }) here rest)
    ∙ ap (λ (w : Walk). (walked_along w rest).least) (walk_place t place least seated one)
    ∙ ap (λ (s : BusState). (walked_along (record { bus = s; least = least_of t least here }) rest).least) next
    ∙ walk_places t (place + 1) count (least_of t least here) seated one
    ∙ sym (least_both t least here rest)

-- ## The lines of all places are all lines

either_list : {X : Type 0} (q r : X → Bool) (xs : List X) → list_any q xs ≡ (list_any (λ x. q x && r x) xs || list_any (λ x. q x && not (r x)) xs)
either_list q r [] = refl
either_list q r (x ∷ xs) = by_tests (q x) (r x) (list_any q xs) (list_any (λ x. q x && r x) xs) (list_any (λ x. q x && not (r x)) xs) (either_list q r xs)
  where
    by_tests : (a b c d e : Bool) → c ≡ (d || e) → (a || c) ≡ (((a && b) || d) || ((a && not b) || e))
    by_tests true true c d e h = refl
    by_tests true false c true e h = refl
    by_tests true false c false e h = refl
    by_tests false b c d e h = h

-- a place that stands alone
list_any_same : {X : Type 0} (q r : X → Bool) (xs : List X) → ((x : X) → q x ≡ r x) → list_any q xs ≡ list_any r xs
list_any_same q r [] same = refl
list_any_same q r (x ∷ xs) same = λ i. same x i || list_any_same q r xs same i

any_filter : {X : Type 0} (q r : X → Bool) (xs : List X) → list_any q (filter r xs) ≡ list_any (λ x. q x && r x) xs
any_filter q r [] = refl
any_filter q r (x ∷ xs) = by_test (r x) (any_filter q r xs)
  where
    and_yes : (a b : Bool) → (a || b) ≡ ((a && true) || b)
    and_yes true b = refl
    and_yes false b = refl

    and_no : (a b : Bool) → b ≡ ((a && false) || b)
    and_no true b = refl
    and_no false b = refl

    by_test : (b : Bool) → list_any q (filter r xs) ≡ list_any (λ x. q x && r x) xs → list_any q (cond b (x ∷ filter r xs) (filter r xs)) ≡ ((q x && b) || list_any (λ x. q x && r x) xs)
    by_test true rest = ap (λ (c : Bool). q x || c) rest ∙ and_yes (q x) (list_any (λ x. q x && r x) xs)
    by_test false rest = rest ∙ and_no (q x) (list_any (λ x. q x && r x) xs)

-- where at most one passes, it is the one that is found
any_found : (q : NumberedLine → Bool) (place number : ℕ) (lines : List Line) → Once place lines →
    list_any q (option_to_list (find (λ n. is_change_at place n.line) (numbered number lines))) ≡ list_any (λ n. q n && is_change_at place n.line) (numbered number lines)
any_found q place number [] one = refl
any_found q place number (line ∷ lines) one = by_test (is_change_at place line) refl (any_found q place (number + 1) lines one.1)
  where
    n : NumberedLine
    n = record { number = number; line = line }

    none_of : (k : ℕ) (ls : List Line) → list_any (is_change_at place) ls ≡ false → list_any (λ m. q m && is_change_at place m.line) (numbered k ls) ≡ false
    none_of k [] e = refl
    none_of k (l ∷ ls) e =
        or_from (q (record { number = k; line = l }) && is_change_at place l) (list_any (λ m. q m && is_change_at place m.line) (numbered (k + 1) ls))
        (ap (λ (b : Bool). q (record { number = k; line = l }) && b) (none_first (is_change_at place l) (list_any (is_change_at place) ls) e) ∙ and_no (q (record { number = k; line = l })))
        (none_of (k + 1) ls (none_second (is_change_at place l) (list_any (is_change_at place) ls) e))
      where
        and_no : (a : Bool) → (a && false) ≡ false
        and_no true = refl
        and_no false = refl

    yes : (a : Bool) → (a || false) ≡ ((a && true) || false)
    yes true = refl
    yes false = refl

    no : (a b : Bool) → b ≡ ((a && false) || b)
    no true b = refl
    no false b = refl

    by_test : (b : Bool) → is_change_at place line ≡ b →
        list_any q (option_to_list (find (λ m. is_change_at place m.line) (numbered (number + 1) lines))) ≡ list_any (λ m. q m && is_change_at place m.line) (numbered (number + 1) lines) →
        list_any q (option_to_list (cond b (Some n) (find (λ m. is_change_at place m.line) (numbered (number + 1) lines)))) ≡ ((q n && is_change_at place line) || list_any (λ m. q m && is_change_at place m.line) (numbered (number + 1) lines))
    by_test true is others =
        yes (q n) ∙ ap (λ (b : Bool). (q n && true) || b) (sym (none_of (number + 1) lines (one.0 is))) ∙ ap (λ (b : Bool). (q n && b) || list_any (λ m. q m && is_change_at place m.line) (numbered (number + 1) lines)) (sym is)
    by_test false is others =
        others ∙ no (q n) (list_any (λ m. q m && is_change_at place m.line) (numbered (number + 1) lines))
        ∙ ap (λ (b : Bool). (q n && b) || list_any (λ m. q m && is_change_at place m.line) (numbered (number + 1) lines)) (sym is)

-- what stands at a place, in turn
any_there : (q : NumberedLine → Bool) (place number : ℕ) (lines : List Line) → Once place lines →
    list_any q (in_turn (lines_there (numbered number lines) place)) ≡ list_any (λ n. q n && (n.line.place == place)) (numbered number lines)
any_there q place number lines one =
    let ns : List NumberedLine = numbered number lines in
    list_any-append q (option_to_list (find (λ n. is_change_at place n.line) ns)) (filter (λ n. is_read_at place n.line) ns)
    ∙ ap (λ (b : Bool). b || list_any q (filter (λ n. is_read_at place n.line) ns)) (any_found q place number lines one)
    ∙ ap (λ (b : Bool). list_any (λ n. q n && is_change_at place n.line) ns || b) (any_filter q (λ n. is_read_at place n.line) ns)
    ∙ by_kind ns
  where
    by_kind : (ns : List NumberedLine) → (list_any (λ n. q n && is_change_at place n.line) ns || list_any (λ n. q n && is_read_at place n.line) ns) ≡ list_any (λ n. q n && (n.line.place == place)) ns
    by_kind [] = refl
    by_kind (n ∷ ns) =
        by_bits (q n) (is_change n.line) (n.line.place == place) (list_any (λ n. q n && is_change_at place n.line) ns) (list_any (λ n. q n && is_read_at place n.line) ns) (list_any (λ n. q n && (n.line.place == place)) ns) (by_kind ns)
      where
        by_bits : (a b c d e f : Bool) → (d || e) ≡ f → (((a && (b && c)) || d) || ((a && (not b && c)) || e)) ≡ ((a && c) || f)
        by_bits false b c d e f h = h
        by_bits true true true d e f h = refl
        by_bits true true false d e f h = h
        by_bits true false true true e f h = refl
        by_bits true false true false e f h = refl
        by_bits true false false d e f h = h

-- a line stands in the range of places
abbrev stands_in : ℕ → ℕ → ℕ → Bool
stands_in p place zero = false
stands_in p place (suc count) = (p == place) || stands_in p (place + 1) count

any_along : (q : NumberedLine → Bool) (number : ℕ) (lines : List Line) (place count : ℕ) → ((p : ℕ) → Once p lines) →
    list_any q (flat_map in_turn (map (lines_there (numbered number lines)) (range_with_len place count))) ≡ list_any (λ n. q n && stands_in n.line.place place count) (numbered number lines)
any_along q number lines place zero one = nowhere (numbered number lines)
  where
    nowhere : (ns : List NumberedLine) → false ≡ list_any (λ n. q n && stands_in n.line.place place zero) ns
    nowhere [] = refl
    nowhere (n ∷ ns) = by_test (q n) (nowhere ns)
      where
        by_test : (a : Bool) → false ≡ list_any (λ n. q n && stands_in n.line.place place zero) ns → false ≡ ((a && false) || list_any (λ n. q n && stands_in n.line.place place zero) ns)
        by_test true h = h
        by_test false h = h
any_along q number lines place (suc count) one =
    let ns : List NumberedLine = numbered number lines in
    list_any-append q (in_turn (lines_there ns place)) (flat_map in_turn (map (lines_there ns) (range_with_len (place + 1) count)))
    ∙ ap (λ (b : Bool). b || list_any q (flat_map in_turn (map (lines_there ns) (range_with_len (place + 1) count)))) (any_there q place number lines (one place))
    ∙ ap (λ (b : Bool). list_any (λ n. q n && (n.line.place == place)) ns || b) (any_along q number lines (place + 1) count one)
    ∙ merge ns
  where
    merge : (ns : List NumberedLine) → (list_any (λ n. q n && (n.line.place == place)) ns || list_any (λ n. q n && stands_in n.line.place (place + 1) count) ns) ≡ list_any (λ n. q n && stands_in n.line.place place (suc count)) ns
    merge [] = refl
    merge (n ∷ ns) =
        by_bits (q n) (n.line.place == place) (stands_in n.line.place (place + 1) count) (list_any (λ n. q n && (n.line.place == place)) ns) (list_any (λ n. q n && stands_in n.line.place (place + 1) count) ns) (list_any (λ n. q n && stands_in n.line.place place (suc count)) ns) (merge ns)
      where
        by_bits : (a b c d e f : Bool) → (d || e) ≡ f → (((a && b) || d) || ((a && c) || e)) ≡ ((a && (b || c)) || f)
        by_bits false b c d e f h = h
        by_bits true true c d e f h = refl
        by_bits true false true true e f h = refl
        by_bits true false true false e f h = refl
        by_bits true false false d e f h = h

inside : (p place count : ℕ) → place ≤ p → p < place + count → stands_in p place count ≡ true
inside p place zero low high = absurd (omega (arith, low, high))
inside p place (suc count) low high = by_test (p == place) refl (λ above. inside p (place + 1) count above (omega (arith, high)))
  where
    by_test : (b : Bool) → (p == place) ≡ b → (place + 1 ≤ p → stands_in p (place + 1) count ≡ true) → (b || stands_in p (place + 1) count) ≡ true
    by_test true e more = refl
    by_test false e more = let above : place + 1 ≤ p = grind (arith, nat_tests, e, low) in more above

-- every line stands at a place of the walk
any_whole : (q : NumberedLine → Bool) (changes number : ℕ) (before lines : List Line) → AllPass (is_placed changes) before lines →
    list_any (λ n. q n && stands_in n.line.place 0 (changes + 1)) (numbered number lines) ≡ list_any q (numbered number lines)
any_whole q changes number before [] all = refl
any_whole q changes number before (line ∷ lines) all =
    let there : stands_in line.place 0 (changes + 1) ≡ true = let up : line.place ≤ changes = within changes before line all.0 in inside line.place 0 (changes + 1) (omega arith) (omega (arith, up)) in
    ap (λ (b : Bool). (q (record { number = number; line = line }) && b) || list_any (λ n. q n && stands_in n.line.place 0 (changes + 1)) (numbered (number + 1) lines)) there
    ∙ ap (λ (b : Bool). b || list_any (λ n. q n && stands_in n.line.place 0 (changes + 1)) (numbered (number + 1) lines)) (and-true (q (record { number = number; line = line })))
    ∙ ap (λ (b : Bool). q (record { number = number; line = line }) || b) (any_whole q changes (number + 1) (before ++ line ∷ []) lines all.1)

-- ## The least number

abbrev is_wrong_at : Trace → ℕ → NumberedLine → Bool
is_wrong_at t number n = (n.number == number) && not (is_right t n.line)

-- what is found is the least of the numbers that a test passes
pub record IsLeast (passes : ℕ → Bool) (found : Option ℕ) : Type 0 where
  pub there : (number : ℕ) → found ≡ Some number → passes number ≡ true
  pub least : (number : ℕ) → passes number ≡ true → (m : ℕ) × (found ≡ Some m) × (m ≤ number)

one_least : (passes : ℕ → Bool) (found other : Option ℕ) → IsLeast passes found → IsLeast passes other → found ≡ other
one_least passes None None a b = refl
one_least passes None (Some n) a b = let low = a.least n (b.there n refl) in absurd (cc low.1)
one_least passes (Some m) None a b = let low = b.least m (a.there m refl) in absurd (cc low.1)
one_least passes (Some m) (Some n) a b =
    let low = a.least n (b.there n refl) in
    let back = b.least m (a.there m refl) in
    let same : low.0 ≡ m = cc low.1 in
    let same2 : back.0 ≡ n = cc back.1 in
    ap Some (omega (arith, same, same2, low.2, back.2))

wrong_here : (t : Trace) (n : NumberedLine) (number : ℕ) → is_right t n.line ≡ false → n.number ≡ number → is_wrong_at t number n ≡ true
wrong_here t n number wrong e =
    let same : (n.number == number) ≡ true = grind (arith, nat_tests, e) in
    ap (λ (b : Bool). b && not (is_right t n.line)) same ∙ ap not wrong

keeps_low : (t : Trace) (l : Option ℕ) (xs : List NumberedLine) (k : ℕ) → l ≡ Some k → (m : ℕ) × (least_of t l xs ≡ Some m) × (m ≤ k)
keeps_low t l [] k e = (k, e, omega arith)
keeps_low t l (x ∷ xs) k e = by_test (is_right t x.line) (keeps_low t l xs k e) (keeps_low t (Some (lesser l x.number)) xs (lesser l x.number) refl)
  where
    lower : (n : ℕ) → lesser (Some k) n ≤ k
    lower n = cond_both (nat_le k n) k n (λ m. m ≤ k) (λ _. omega arith) (λ f. let above : n < k = grind (arith, nat_tests, f) in omega (arith, above))

    by_test : (b : Bool) → ((m : ℕ) × (least_of t l xs ≡ Some m) × (m ≤ k)) → ((m : ℕ) × (least_of t (Some (lesser l x.number)) xs ≡ Some m) × (m ≤ lesser l x.number)) →
        (m : ℕ) × (least_of t (if b then l else Some (lesser l x.number)) xs ≡ Some m) × (m ≤ k)
    by_test true same low = same
    by_test false same low =
        let down : lesser l x.number ≤ k = subst (λ (o : Option ℕ). lesser o x.number ≤ k) (sym e) (lower x.number) in
        (low.0, low.1, omega (arith, low.2, down))

lesser_low : (l : Option ℕ) (n : ℕ) → lesser l n ≤ n
lesser_low None n = omega arith
lesser_low (Some k) n = cond_both (nat_le k n) k n (λ m. m ≤ n) (λ e. let low : k ≤ n = grind (arith, nat_tests, e) in low) (λ _. omega arith)

finds_low : (t : Trace) (l : Option ℕ) (xs : List NumberedLine) (k : ℕ) → list_any (is_wrong_at t k) xs ≡ true → (m : ℕ) × (least_of t l xs ≡ Some m) × (m ≤ k)
finds_low t l [] k e = absurd (true≢false (sym e))
finds_low t l (x ∷ xs) k e = by_test (is_wrong_at t k x) refl e (finds_low t (least_on t l x) xs k)
  where
    by_test : (b : Bool) → is_wrong_at t k x ≡ b → (b || list_any (is_wrong_at t k) xs) ≡ true →
        (list_any (is_wrong_at t k) xs ≡ true → (m : ℕ) × (least_of t (least_on t l x) xs ≡ Some m) × (m ≤ k)) → (m : ℕ) × (least_of t l (x ∷ xs) ≡ Some m) × (m ≤ k)
    by_test true is e more =
        let both = and_parts (x.number == k) (not (is_right t x.line)) is in
        let at : x.number ≡ k = eqb-true x.number k both.0 in
        let wrong : is_right t x.line ≡ false = not_both true (is_right t x.line) refl both.1 in
        let low = keeps_low t (Some (lesser l x.number)) xs (lesser l x.number) refl in
        (low.0, ap (λ (b : Bool). least_of t (if b then l else Some (lesser l x.number)) xs) wrong ∙ low.1, omega (arith, low.2, lesser_low l x.number, at))
    by_test false is e more = more e

found_there : (t : Trace) (l : Option ℕ) (xs : List NumberedLine) (m : ℕ) → least_of t l xs ≡ Some m → (l ≡ Some m) ⊎ (list_any (is_wrong_at t m) xs ≡ true)
found_there t l [] m e = inl e
found_there t l (x ∷ xs) m e = by_rest (found_there t (least_on t l x) xs m e)
  where
    by_least : (l : Option ℕ) → is_right t x.line ≡ false → Some (lesser l x.number) ≡ Some m → (l ≡ Some m) ⊎ (list_any (is_wrong_at t m) (x ∷ xs) ≡ true)
    by_least None wrong e = let at : x.number ≡ m = cc e in inr (or_left (is_wrong_at t m x) (list_any (is_wrong_at t m) xs) (wrong_here t x m wrong at))
    by_least (Some k) wrong e = by_order (nat_le k x.number) e
      where
        by_order : (b : Bool) → Some (if b then k else x.number) ≡ Some m → (Some k ≡ Some m) ⊎ (list_any (is_wrong_at t m) (x ∷ xs) ≡ true)
        by_order true e = inl e
        by_order false e = let at : x.number ≡ m = cc e in inr (or_left (is_wrong_at t m x) (list_any (is_wrong_at t m) xs) (wrong_here t x m wrong at))

    by_test : (b : Bool) → is_right t x.line ≡ b → (if b then l else Some (lesser l x.number)) ≡ Some m → (l ≡ Some m) ⊎ (list_any (is_wrong_at t m) (x ∷ xs) ≡ true)
    by_test true is e = inl e
    by_test false is e = by_least l is e

    by_rest : (least_on t l x ≡ Some m) ⊎ (list_any (is_wrong_at t m) xs ≡ true) → (l ≡ Some m) ⊎ (list_any (is_wrong_at t m) (x ∷ xs) ≡ true)
    by_rest (inl e) = by_test (is_right t x.line) refl e
    by_rest (inr e) = inr (or_right (is_wrong_at t m x) (list_any (is_wrong_at t m) xs) e)

none_before : (m : ℕ) → None ≡ Some m → ⊥
none_before m e = cc e

walk_least : (t : Trace) (xs : List NumberedLine) → IsLeast (λ m. list_any (is_wrong_at t m) xs) (least_of t None xs)
walk_least t xs = record {
  there = λ m e. from_start m (found_there t None xs m e);
  least = λ m e. finds_low t None xs m e;
}
  where
    from_start : (m : ℕ) → (None ≡ Some m) ⊎ (list_any (is_wrong_at t m) xs ≡ true) → list_any (is_wrong_at t m) xs ≡ true
    from_start m (inl e) = absurd (none_before m e)
    from_start m (inr e) = e

-- numbers rise
no_lower : (t : Trace) (number k : ℕ) (lines : List Line) → list_any (is_wrong_at t k) (numbered number lines) ≡ true → number ≤ k
no_lower t number k [] e = absurd (true≢false (sym e))
no_lower t number k (line ∷ lines) e = by_test (is_wrong_at t k (record { number = number; line = line })) refl e (no_lower t (number + 1) k lines)
  where
    by_test : (b : Bool) → is_wrong_at t k (record { number = number; line = line }) ≡ b → (b || list_any (is_wrong_at t k) (numbered (number + 1) lines)) ≡ true →
        (list_any (is_wrong_at t k) (numbered (number + 1) lines) ≡ true → number + 1 ≤ k) → number ≤ k
    by_test true is e more = let at : number ≡ k = eqb-true number k (and_parts (number == k) (not (is_right t line)) is).0 in omega (arith, at)
    by_test false is e more = let above : number + 1 ≤ k = more e in omega (arith, above)

abbrev pub by_itself : Trace → List Line → Line → Bool
by_itself t before line = is_right t line

refused_there : (t : Trace) (number : ℕ) (before lines : List Line) (m : ℕ) → first_refused (by_itself t) number before lines ≡ Some m → list_any (is_wrong_at t m) (numbered number lines) ≡ true
refused_there t number before [] m e = absurd (none_before m e)
refused_there t number before (line ∷ lines) m e = by_test (is_right t line) refl e (refused_there t (number + 1) (before ++ line ∷ []) lines m)
  where
    n : NumberedLine
    n = record { number = number; line = line }

    by_test : (b : Bool) → is_right t line ≡ b → cond b (first_refused (by_itself t) (number + 1) (before ++ line ∷ []) lines) (Some number) ≡ Some m →
        (first_refused (by_itself t) (number + 1) (before ++ line ∷ []) lines ≡ Some m → list_any (is_wrong_at t m) (numbered (number + 1) lines) ≡ true) →
        (is_wrong_at t m n || list_any (is_wrong_at t m) (numbered (number + 1) lines)) ≡ true
    by_test true is e more = or_right (is_wrong_at t m n) (list_any (is_wrong_at t m) (numbered (number + 1) lines)) (more e)
    by_test false is e more = let at : number ≡ m = cc e in or_left (is_wrong_at t m n) (list_any (is_wrong_at t m) (numbered (number + 1) lines)) (wrong_here t n m is at)

refused_low : (t : Trace) (number : ℕ) (before lines : List Line) (k : ℕ) → list_any (is_wrong_at t k) (numbered number lines) ≡ true → (m : ℕ) × (first_refused (by_itself t) number before lines ≡ Some m) × (m ≤ k)
refused_low t number before [] k e = absurd (true≢false (sym e))
refused_low t number before (line ∷ lines) k e = by_test (is_right t line) refl (refused_low t (number + 1) (before ++ line ∷ []) lines k)
  where
    n : NumberedLine
    n = record { number = number; line = line }

    not_here : is_right t line ≡ true → is_wrong_at t k n ≡ false
    not_here is = ap (λ (b : Bool). (number == k) && not b) is ∙ and_no (number == k)
      where
        and_no : (a : Bool) → (a && false) ≡ false
        and_no true = refl
        and_no false = refl

    by_test : (b : Bool) → is_right t line ≡ b →
        (list_any (is_wrong_at t k) (numbered (number + 1) lines) ≡ true → (m : ℕ) × (first_refused (by_itself t) (number + 1) (before ++ line ∷ []) lines ≡ Some m) × (m ≤ k)) →
        (m : ℕ) × (cond b (first_refused (by_itself t) (number + 1) (before ++ line ∷ []) lines) (Some number) ≡ Some m) × (m ≤ k)
    by_test true is more = more (ap (λ (b : Bool). b || list_any (is_wrong_at t k) (numbered (number + 1) lines)) (sym (not_here is)) ∙ e)
    by_test false is more = (number, refl, no_lower t number k (line ∷ lines) e)

wrong_least : (t : Trace) → IsLeast (λ m. list_any (is_wrong_at t m) (ns_of t)) (wrong t)
wrong_least t = record { there = refused_there t (first_line t) [] t.lines; least = refused_low t (first_line t) [] t.lines }

all_placed : (t : Trace) → misplaced t ≡ None → AllPass (is_placed (changes_in t.lines)) [] t.lines
all_placed t e = all_pass (is_placed (changes_in t.lines)) (first_line t) [] t.lines e

pub walk_finds_wrong : (t : Trace) → misplaced t ≡ None → Each (IsSeated t.routers) t.lines → (whole_walk t).least ≡ wrong t
walk_finds_wrong t e seated =
    let all = all_placed t e in
    let one : (p : ℕ) → Once p t.lines = λ p. once (changes_in t.lines) p [] t.lines all in
    let xs : List NumberedLine = flat_map in_turn (lines_by_place t) in
    let same : (q : NumberedLine → Bool) → list_any q xs ≡ list_any q (ns_of t) = λ q.
    any_along q (first_line t) t.lines 0 (changes_in t.lines + 1) one ∙ any_whole q (changes_in t.lines) (first_line t) [] t.lines all in
    let walk : IsLeast (λ m. list_any (is_wrong_at t m) (ns_of t)) (least_of t None xs) = record {
      there = λ m e. sym (same (is_wrong_at t m)) ∙ (walk_least t xs).there m e;
      least = λ m e. (walk_least t xs).least m (same (is_wrong_at t m) ∙ e);
    } in
    walk_places t 0 (changes_in t.lines + 1) None seated one
    ∙ one_least (λ m. list_any (is_wrong_at t m) (ns_of t)) (least_of t None xs) (wrong t) walk (wrong_least t)

-- ## Steps of the walk

-- one line more
pub walked_more : (w here : Walk) (done : List NumberedLine) (n : NumberedLine) → here ≡ walked_along w done → walked here n ≡ walked_along w (done ++ n ∷ [])
walked_more w here done n is = ap (λ (v : Walk). walked v n) is ∙ sym (along_both w done (n ∷ []))

-- one place more
pub places_more : (w here : Walk) (done : List LinesThere) (there : LinesThere) → here ≡ walked_along w (flat_map in_turn done) → walked_along here (in_turn there) ≡ walked_along w (flat_map in_turn (done ++ there ∷ []))
places_more w here done there is =
    ap (λ (v : Walk). walked_along v (in_turn there)) is ∙ sym (along_both w (flat_map in_turn done) (in_turn there))
    ∙ ap (walked_along w) (sym (flat_push in_turn done there))
