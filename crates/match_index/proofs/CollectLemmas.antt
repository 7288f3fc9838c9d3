-- Connections that are found.
use Rattle.std.proofs.Common.{◌≡◌, ℕ, zero, suc, ◌+◌, ◌<◌, ◌≤◌, nat_lt, ◌==◌, Bool, true, false, cond, ◌&&◌, ◌||◌, List, [], ◌∷◌, ◌++◌, map, filter, length, take, get_or, refl, sym, ap, ◌∙◌, subst, arith, if◌then◌else◌}
use Rattle.std.specs.List.{AllByRecursion as Each, flat_map, list_any, count_by}
use Rattle.std.proofs.Math.Logic.{∥∥₁_elim}
use Rattle.std.proofs.Props.{props}
use Rattle.std.proofs.lemmas.Bool.{and_parts, eq-eqb, eqb-true, ne_eqb, true≢false}
use Rattle.std.proofs.lemmas.Bool.Decides.{nat_tests}
use Rattle.std.proofs.lemmas.Grind.{flat_map-append}
use Rattle.std.proofs.lemmas.List.{append-nil, map-append, take_more}
use Rattle.std.proofs.lemmas.List.Folds.{list_any-append, flat_map-map}
use Rattle.std.proofs.lemmas.List.Sums.{sum_by-append, sum_by-cons}
use Rattle.match_rules.specs.CanonicalTexts.{rule_text}
use Rattle.match_rules.specs.Facts.{Facts}
use Rattle.match_rules.specs.Fitting.{Heads, fits}
use Rattle.match_rules.specs.RuleTexts.{IsRuleText}
use Rattle.match_rules.specs.Rules.{Rule, same_rule}
use Rattle.match_rules.proofs.RuleLemmas.{same_rule-true}
use Rattle.match_rules.specs.OwnedRules.{OwnedRule, has_fitting, is_of}
use Rattle.match_index.specs.Buckets.{asked, bucket_of, code_of, message_parts, shape_of}
use Rattle.match_index.specs.Collecting.{AreAmong, AreOwned, connections_of, entries_at, entry_at, is_near_below, is_tested, is_wanting, is_wanting_below}
use Rattle.match_index.specs.Entries.{by_code, has_key, is_there, live, owned_rule, positions}
use Rattle.match_index.specs.Indexes.{AreFiled, AreShaped}
use Rattle.match_index.specs.Near.{is_near, near_rules}
use Rattle.match_index.specs.PlaceIndexes.{places_in}
use Rattle.match_index.specs.Sets.{AreRising, is_in, with_number}
use Rattle.match_index.specs.declared.entries.Entry.{Entry}
use Rattle.match_index.specs.declared.place_index.KeyedPlace.{KeyedPlace}
use Rattle.match_index.proofs.Lists.{each_weaker}
use Rattle.match_index.proofs.NearLemmas.{fits_near, near_parts, shape_few}
use Rattle.match_index.proofs.SetLemmas.{each_with, in_with, rising_with}

-- ## How many connections there are

in_tail : (x y : ℕ) (ys : List ℕ) → (y == x) ≡ false → is_in x (y ∷ ys) ≡ true → is_in x ys ≡ true
in_tail x y ys differs h = ap (λ b. b || is_in x ys) (sym differs) ∙ h

least : (y z : ℕ) (zs : List ℕ) → Each (λ w. y < w) zs → is_in z zs ≡ true → y < z
least y z [] more there = absurd (true≢false (sym there))
least y z (w ∷ zs) more there = by_here (w == z) refl there (λ behind. least y z zs more.1 behind)
  where
    by_here : (b : Bool) → (w == z) ≡ b → (b || is_in z zs) ≡ true → (is_in z zs ≡ true → y < z) → y < z
    by_here true same in_it rest = let is = eqb-true w z same in omega (arith, is, more.0)
    by_here false differs in_it rest = rest in_it

-- what rises and stands among others that rise is not more than they are
pub rising_few : (xs ys : List ℕ) → AreRising xs → AreRising ys → Each (λ x. is_in x ys ≡ true) xs → length xs ≤ length ys
rising_few [] ys rising others h = omega arith
rising_few (x ∷ xs) [] rising others h = absurd (true≢false (sym h.0))
rising_few (x ∷ xs) (y ∷ ys) rising others h = by_test (y == x) refl (rising_few xs ys rising.1 others.1) (rising_few (x ∷ xs) ys rising others.1)
  where
    above : y ≡ x → (z : ℕ) → x < z → is_in z (y ∷ ys) ≡ true → is_in z ys ≡ true
    above same z more there = in_tail z y ys (ne_eqb y z (λ e. omega (arith, same, more, e))) there

    both : (zs : List ℕ) → y ≡ x → Each (λ z. x < z) zs → Each (λ z. is_in z (y ∷ ys) ≡ true) zs → Each (λ z. is_in z ys ≡ true) zs
    both [] same more there = tt
    both (z ∷ zs) same more there = (above same z more.0 there.0, both zs same more.1 there.1)

    behind : (zs : List ℕ) → y < x → Each (λ z. x < z) zs → Each (λ z. is_in z (y ∷ ys) ≡ true) zs → Each (λ z. is_in z ys ≡ true) zs
    behind [] lt more there = tt
    behind (z ∷ zs) lt more there = (in_tail z y ys (ne_eqb y z (λ e. omega (arith, lt, more.0, e))) there.0, behind zs lt more.1 there.1)

    by_test : (b : Bool) → (y == x) ≡ b → (Each (λ z. is_in z ys ≡ true) xs → length xs ≤ length ys) → (Each (λ z. is_in z ys ≡ true) (x ∷ xs) → length (x ∷ xs) ≤ length ys) → length (x ∷ xs) ≤ length (y ∷ ys)
    by_test true same one more = let rest = one (both xs (eqb-true y x same) rising.0 h.1) in omega (arith, rest)
    by_test false differs one more =
        let there = in_tail x y ys differs h.0 in
        let rest = more (there, behind xs (least y x ys others.0 there) rising.0 h.1) in
        omega (arith, rest)

pub rising_connections : (rules : List OwnedRule) → AreRising (connections_of rules)
rising_connections [] = tt
rising_connections (r ∷ rules) = rising_with r.connection (connections_of rules) (rising_connections rules)

length_new : (number : ℕ) (xs : List ℕ) → is_in number xs ≡ false → length (with_number number xs) ≡ suc (length xs)
length_new number [] none = refl
length_new number (x ∷ xs) none = by_test (x == number) (nat_lt number x) none (λ fresh. length_new number xs fresh)
  where
    by_test : (a b : Bool) → (a || is_in number xs) ≡ false → (is_in number xs ≡ false → length (with_number number xs) ≡ suc (length xs)) → length (if a then x ∷ xs else if b then number ∷ x ∷ xs else x ∷ with_number number xs) ≡ suc (suc (length xs))
    by_test true b fresh rest = absurd (true≢false fresh)
    by_test false true fresh rest = refl
    by_test false false fresh rest = ap suc (rest fresh)

pub among_with : (rules : List OwnedRule) (found : List ℕ) (number : ℕ) → AreAmong rules found → is_in number (connections_of rules) ≡ true → AreAmong rules (with_number number found)
among_with rules found number among there = (rising_with number found among.0, each_with (λ n. is_in n (connections_of rules) ≡ true) number found there among.1)

-- a connection that is not found yet has room
pub room_for : (rules : List OwnedRule) (found : List ℕ) (number : ℕ) → AreAmong rules found → is_in number (connections_of rules) ≡ true → is_in number found ≡ false → length found < length (connections_of rules)
room_for rules found number among there none =
    let whole = among_with rules found number among there in
    let few = rising_few (with_number number found) (connections_of rules) whole.0 (rising_connections rules) whole.1 in
    let size = length_new number found none in
    omega (arith, few, size)

-- ## Entries at places

pub entry_at_is : (es : List Entry) (k : ℕ) (d : Entry) → k < length es → entry_at es k ≡ get_or es k d ∷ []
entry_at_is [] k d lt = absurd (omega (arith, lt))
entry_at_is (e ∷ es) zero d lt = refl
entry_at_is (e ∷ es) (suc k) d lt = entry_at_is es k d (omega (arith, lt))

pub entries_at_positions : (k : ℕ) (es : List Entry) → entries_at es (positions by_code k es) ≡ filter (has_key by_code k) es
entries_at_positions k [] = refl
entries_at_positions k (e ∷ es) = by_test (has_key by_code k e) (flat_map-map (entry_at (e ∷ es)) suc (positions by_code k es) ∙ entries_at_positions k es)
  where
    by_test : (b : Bool) → flat_map (entry_at (e ∷ es)) (map suc (positions by_code k es)) ≡ filter (has_key by_code k) es →
        flat_map (entry_at (e ∷ es)) (if b then 0 ∷ map suc (positions by_code k es) else map suc (positions by_code k es)) ≡ cond b (e ∷ filter (has_key by_code k) es) (filter (has_key by_code k) es)
    by_test true rest = ap (λ more. e ∷ more) rest
    by_test false rest = rest

-- one place more
pub entries_more : (es : List Entry) (ps : List KeyedPlace) (i : ℕ) (q : KeyedPlace) (d : Entry) → i < length ps → (get_or ps i q).place < length es →
    entries_at es (places_in (take (i + 1) ps)) ≡ entries_at es (places_in (take i ps)) ++ get_or es (get_or ps i q).place d ∷ []
entries_more es ps i q d lt there =
    let p = get_or ps i q in
    ap (λ qs. entries_at es (places_in qs)) (take_more ps i q lt) ∙ ap (entries_at es) (map-append (λ (x : KeyedPlace). x.place) (take i ps) (p ∷ []))
    ∙ flat_map-append (entry_at es) (places_in (take i ps)) (p.place ∷ []) ∙ ap (λ xs. entries_at es (places_in (take i ps)) ++ xs) (append-nil (entry_at es p.place) ∙ entry_at_is es p.place d there)

each_right : {X : Type 0} (P : X → Type 0) (xs ys : List X) → Each P (xs ++ ys) → Each P ys
each_right P [] ys h = h
each_right P (x ∷ xs) ys h = each_right P xs ys h.1

-- what holds of the entries at places holds of each
pub each_entry : (P : Entry → Type 0) (es : List Entry) (ps : List KeyedPlace) (i : ℕ) (q : KeyedPlace) (d : Entry) → Each P (entries_at es (places_in ps)) → i < length ps → (get_or ps i q).place < length es → P (get_or es (get_or ps i q).place d)
each_entry P es [] i q d h lt there = absurd (omega (arith, lt))
each_entry P es (p ∷ ps) zero q d h lt there = (subst (λ xs. Each P (xs ++ entries_at es (places_in ps))) (entry_at_is es p.place d there) h).0
each_entry P es (p ∷ ps) (suc i) q d h lt there = each_entry P es ps i q d (each_right P (entry_at es p.place) (entries_at es (places_in ps)) h) (omega (arith, lt)) there

-- ## Equal rules

-- rules that have texts are one where they compare equal
pub one_rule : (a b : Rule) → ∥ IsRuleText (rule_text a) a ∥₁ → ∥ IsRuleText (rule_text b) b ∥₁ → same_rule a b ≡ true → a ≡ b
one_rule a b ha hb same = ∥∥₁_elim ha (hlevel props) (λ x. ∥∥₁_elim hb (hlevel props) (λ y. same_rule-true a b x.0.1 y.0.1 same))

-- ## One entry more

pub wanted_here : (a b s w : Bool) → w ≡ true → ((a || b) || s) ≡ (a || (b || (s && w)))
wanted_here true b s true is = refl
wanted_here false true s true is = refl
wanted_here false false true true is = refl
wanted_here false false false true is = refl
wanted_here a b s false is = absurd (true≢false (sym is))

pub none_here : (a b s w : Bool) → w ≡ false → (a || b) ≡ (a || (b || (s && w)))
none_here true b s w none = refl
none_here false true s w none = refl
none_here false false true true none = absurd (true≢false none)
none_here false false true false none = refl
none_here false false false w none = refl

-- where the connection of the entry is found already
pub found_here : (a b s w : Bool) → (s ≡ true → (a || b) ≡ true) → (a || b) ≡ (a || (b || (s && w)))
found_here true b s w there = refl
found_here false true s w there = refl
found_here false false true w there = absurd (true≢false (sym (there refl)))
found_here false false false w there = refl

pub any_more : {X : Type 0} (test : X → Bool) (xs : List X) (x : X) → list_any test (xs ++ x ∷ []) ≡ (list_any test xs || test x)
any_more test xs x = list_any-append test xs (x ∷ []) ∙ ap (λ b. list_any test xs || b) (last (test x))
  where
    last : (b : Bool) → (b || false) ≡ b
    last true = refl
    last false = refl

pub count_more : {X : Type 0} (test : X → Bool) (xs : List X) (x : X) → count_by test (xs ++ x ∷ []) ≡ count_by test xs + cond (test x) 1 0
count_more test xs x =
    let one = sum_by-cons (λ y. cond (test y) 1 0) x [] in
    let all = sum_by-append (λ y. cond (test y) 1 0) xs (x ∷ []) in
    omega (arith, one, all)

-- ## Entries with a code

-- a test that only near rules pass finds the same among the rules with their code as among all
any_coded : (f : Entry → Bool) (g : OwnedRule → Bool) (k : ℕ) (es : List Entry) → Each (λ e. (has_key by_code k e && f e) ≡ (is_there e && g (owned_rule e))) es → list_any f (filter (has_key by_code k) es) ≡ list_any g (live es)
any_coded f g k [] h = refl
any_coded f g k (e ∷ es) h = by_test (has_key by_code k e) (is_there e) h.0 (any_coded f g k es h.1)
  where
    by_test : (a b : Bool) → (a && f e) ≡ (b && g (owned_rule e)) → list_any f (filter (has_key by_code k) es) ≡ list_any g (live es) →
        list_any f (cond a (e ∷ filter (has_key by_code k) es) (filter (has_key by_code k) es)) ≡ list_any g (map owned_rule (cond b (e ∷ filter is_there es) (filter is_there es)))
    by_test true true same rest = ap (λ t. t || list_any f (filter (has_key by_code k) es)) same ∙ ap (λ t. g (owned_rule e) || t) rest
    by_test true false same rest = ap (λ t. t || list_any f (filter (has_key by_code k) es)) same ∙ rest
    by_test false true same rest = rest ∙ ap (λ t. t || list_any g (live es)) same
    by_test false false same rest = rest

count_coded : (f : Entry → Bool) (g : OwnedRule → Bool) (k : ℕ) (es : List Entry) → Each (λ e. (has_key by_code k e && f e) ≡ (is_there e && g (owned_rule e))) es → count_by f (filter (has_key by_code k) es) ≡ count_by g (live es)
count_coded f g k [] h = refl
count_coded f g k (e ∷ es) h = by_test (has_key by_code k e) (is_there e) h.0 (count_coded f g k es h.1)
  where
    first : (test : Entry → Bool) (xs : List Entry) → count_by test (e ∷ xs) ≡ cond (test e) 1 0 + count_by test xs
    first test xs = sum_by-cons (λ y. cond (test y) 1 0) e xs

    first_rule : (xs : List OwnedRule) → count_by g (owned_rule e ∷ xs) ≡ cond (g (owned_rule e)) 1 0 + count_by g xs
    first_rule xs = sum_by-cons (λ y. cond (g y) 1 0) (owned_rule e) xs

    by_test : (a b : Bool) → (a && f e) ≡ (b && g (owned_rule e)) → count_by f (filter (has_key by_code k) es) ≡ count_by g (live es) →
        count_by f (cond a (e ∷ filter (has_key by_code k) es) (filter (has_key by_code k) es)) ≡ count_by g (map owned_rule (cond b (e ∷ filter is_there es) (filter is_there es)))
    by_test true true same rest = first f (filter (has_key by_code k) es) ∙ ap (λ t. cond t 1 0 + count_by f (filter (has_key by_code k) es)) same ∙ ap (λ n. cond (g (owned_rule e)) 1 0 + n) rest ∙ sym (first_rule (live es))
    by_test true false same rest =
        let here = first f (filter (has_key by_code k) es) in
        let none : ◌≡◌ {A = ℕ} (cond (f e) 1 0) 0 = ap (λ t. cond t 1 0) same in
        omega (arith, here, none, rest)
    by_test false true same rest =
        let here = first_rule (live es) in
        let none : ◌≡◌ {A = ℕ} (cond (g (owned_rule e)) 1 0) 0 = ap (λ t. cond t 1 0) (sym same) in
        omega (arith, here, none, rest)
    by_test false false same rest = rest

-- the rules of a shape that are near
abbrev pub is_near_at : ℕ → Facts → OwnedRule → Bool
is_near_at shape facts r = (shape_of r.rule == shape) && is_near facts r.rule

abbrev pub is_wanting_at : Heads → ℕ → Facts → ℕ → OwnedRule → Bool
is_wanting_at heads shape facts connection r = is_of connection r && (is_near_at shape facts r && fits heads r.rule facts)

absorb : (t k f : Bool) → (f ≡ true → k ≡ true) → ((t && k) && f) ≡ (t && f)
absorb true true f only = refl
absorb true false true only = absurd (true≢false (sym (only refl)))
absorb true false false only = refl
absorb false k f only = refl

-- a near rule of the shape has the code that is looked for
near_coded : (shape : ℕ) (facts : Facts) (e : Entry) → e.bucket ≡ bucket_of e.rule → is_near_at shape facts (owned_rule e) ≡ true → (e.bucket.code == code_of (asked shape (message_parts facts))) ≡ true
near_coded shape facts e filed near =
    let parts = and_parts (shape_of e.rule == shape) (is_near facts e.rule) near in
    let same : shape_of e.rule ≡ shape = eqb-true (shape_of e.rule) shape parts.0 in
    eq-eqb e.bucket.code (code_of (asked shape (message_parts facts))) (ap (λ b. b.code) filed ∙ ap code_of (near_parts facts e.rule parts.1) ∙ ap (λ n. code_of (asked n (message_parts facts))) same)

tested_is : (shape : ℕ) (facts : Facts) (e : Entry) → e.bucket ≡ bucket_of e.rule → is_tested shape facts e ≡ is_near_at shape facts (owned_rule e)
tested_is shape facts e filed = ap (λ b. (b.shape == shape) && is_near facts e.rule) filed

each_tested : (shape : ℕ) (facts : Facts) (es : List Entry) → AreFiled es → Each (λ e. (has_key by_code (code_of (asked shape (message_parts facts))) e && is_tested shape facts e) ≡ (is_there e && is_near_at shape facts (owned_rule e))) es
each_tested shape facts [] h = tt
each_tested shape facts (e ∷ es) h = (
  ap (λ t. has_key by_code (code_of (asked shape (message_parts facts))) e && t) (tested_is shape facts e h.0)
      ∙ absorb (is_there e) (e.bucket.code == code_of (asked shape (message_parts facts))) (is_near_at shape facts (owned_rule e)) (near_coded shape facts e h.0),
  each_tested shape facts es h.1,
)

middle : (a b c : Bool) → (a && (b && c)) ≡ true → b ≡ true
middle a b c h = (and_parts b c (and_parts a (b && c) h).1).0

each_wanting : (heads : Heads) (shape : ℕ) (facts : Facts) (c : ℕ) (es : List Entry) → AreFiled es →
    Each (λ e. (has_key by_code (code_of (asked shape (message_parts facts))) e && is_wanting heads shape facts c e) ≡ (is_there e && is_wanting_at heads shape facts c (owned_rule e))) es
each_wanting heads shape facts c [] h = tt
each_wanting heads shape facts c (e ∷ es) h = (
  ap (λ t. has_key by_code (code_of (asked shape (message_parts facts))) e && ((e.connection == c) && (t && fits heads e.rule facts))) (tested_is shape facts e h.0)
      ∙ absorb (is_there e) (e.bucket.code == code_of (asked shape (message_parts facts))) (is_wanting_at heads shape facts c (owned_rule e))
      (λ want. near_coded shape facts e h.0 (middle (e.connection == c) (is_near_at shape facts (owned_rule e)) (fits heads e.rule facts) want)),
  each_wanting heads shape facts c es h.1,
)

pub any_of_shape : (heads : Heads) (shape : ℕ) (facts : Facts) (c : ℕ) (es : List Entry) → AreFiled es →
    list_any (is_wanting heads shape facts c) (filter (has_key by_code (code_of (asked shape (message_parts facts)))) es) ≡ list_any (is_wanting_at heads shape facts c) (live es)
any_of_shape heads shape facts c es filed = any_coded (is_wanting heads shape facts c) (is_wanting_at heads shape facts c) (code_of (asked shape (message_parts facts))) es (each_wanting heads shape facts c es filed)

pub count_of_shape : (shape : ℕ) (facts : Facts) (es : List Entry) → AreFiled es → count_by (is_tested shape facts) (filter (has_key by_code (code_of (asked shape (message_parts facts)))) es) ≡ count_by (is_near_at shape facts) (live es)
count_of_shape shape facts es filed = count_coded (is_tested shape facts) (is_near_at shape facts) (code_of (asked shape (message_parts facts))) es (each_tested shape facts es filed)

-- ## One shape more

next_below : (n shape : ℕ) → nat_lt n (shape + 1) ≡ (nat_lt n shape || (n == shape))
next_below n shape = grind (arith, nat_tests)

not_twice : (n shape : ℕ) → (nat_lt n shape && (n == shape)) ≡ false
not_twice n shape = grind (arith, nat_tests)

any_or : (f g h : OwnedRule → Bool) → ((r : OwnedRule) → h r ≡ (f r || g r)) → (rules : List OwnedRule) → list_any h rules ≡ (list_any f rules || list_any g rules)
any_or f g h is [] = refl
any_or f g h is (r ∷ rules) = ap (λ t. t || list_any h rules) (is r) ∙ ap (λ t. (f r || g r) || t) (any_or f g h is rules) ∙ swapped (f r) (g r) (list_any f rules) (list_any g rules)
  where
    swapped : (a b c d : Bool) → ((a || b) || (c || d)) ≡ ((a || c) || (b || d))
    swapped true b c d = refl
    swapped false true true d = refl
    swapped false true false d = refl
    swapped false false c d = refl

count_or : (f g h : OwnedRule → Bool) → ((r : OwnedRule) → cond (h r) 1 0 ≡ cond (f r) 1 0 + cond (g r) 1 0) → (rules : List OwnedRule) → count_by h rules ≡ count_by f rules + count_by g rules
count_or f g h is [] = refl
count_or f g h is (r ∷ rules) =
    let first : (test : OwnedRule → Bool) → count_by test (r ∷ rules) ≡ cond (test r) 1 0 + count_by test rules = λ test. sum_by-cons (λ y. cond (test y) 1 0) r rules in
    let rest = count_or f g h is rules in
    let here = is r in
    let a = first f in
    let b = first g in
    let c = first h in
    omega (arith, rest, here, a, b, c)

pub any_next : (heads : Heads) (shape : ℕ) (facts : Facts) (c : ℕ) (rules : List OwnedRule) →
    list_any (is_wanting_below heads (shape + 1) facts c) rules ≡ (list_any (is_wanting_below heads shape facts c) rules || list_any (is_wanting_at heads shape facts c) rules)
any_next heads shape facts c rules = any_or (is_wanting_below heads shape facts c) (is_wanting_at heads shape facts c) (is_wanting_below heads (shape + 1) facts c) here rules
  where
    parted : (o a b n f : Bool) → (o && (((a || b) && n) && f)) ≡ ((o && ((a && n) && f)) || (o && ((b && n) && f)))
    parted true true true true true = refl
    parted true true true true false = refl
    parted true true true false f = refl
    parted true true false true true = refl
    parted true true false true false = refl
    parted true true false false f = refl
    parted true false b n f = refl
    parted false a b n f = refl

    here : (r : OwnedRule) → is_wanting_below heads (shape + 1) facts c r ≡ (is_wanting_below heads shape facts c r || is_wanting_at heads shape facts c r)
    here r = ap (λ t. is_of c r && ((t && is_near facts r.rule) && fits heads r.rule facts)) (next_below (shape_of r.rule) shape) ∙ parted (is_of c r) (nat_lt (shape_of r.rule) shape) (shape_of r.rule == shape) (is_near facts r.rule) (fits heads r.rule facts)

pub count_next : (shape : ℕ) (facts : Facts) (rules : List OwnedRule) → count_by (is_near_below (shape + 1) facts) rules ≡ count_by (is_near_below shape facts) rules + count_by (is_near_at shape facts) rules
count_next shape facts rules = count_or (is_near_below shape facts) (is_near_at shape facts) (is_near_below (shape + 1) facts) here rules
  where
    parted : (a b n : Bool) → (a && b) ≡ false → ◌≡◌ {A = ℕ} (cond ((a || b) && n) 1 0) (cond (a && n) 1 0 + cond (b && n) 1 0)
    parted true true n both = absurd (true≢false both)
    parted true false true both = refl
    parted true false false both = refl
    parted false true true both = refl
    parted false true false both = refl
    parted false false n both = refl

    here : (r : OwnedRule) → ◌≡◌ {A = ℕ} (cond (is_near_below (shape + 1) facts r) 1 0) (cond (is_near_below shape facts r) 1 0 + cond (is_near_at shape facts r) 1 0)
    here r = ap (λ t. cond (t && is_near facts r.rule) 1 0) (next_below (shape_of r.rule) shape) ∙ parted (nat_lt (shape_of r.rule) shape) (shape_of r.rule == shape) (is_near facts r.rule) (not_twice (shape_of r.rule) shape)

-- ## No shape, and all shapes

none_below : (n : ℕ) → nat_lt n 0 ≡ false
none_below n = grind (arith, nat_tests)

pub any_at_first : (heads : Heads) (facts : Facts) (c : ℕ) (rules : List OwnedRule) → list_any (is_wanting_below heads 0 facts c) rules ≡ false
any_at_first heads facts c [] = refl
any_at_first heads facts c (r ∷ rules) = ap (λ t. (is_of c r && ((t && is_near facts r.rule) && fits heads r.rule facts)) || list_any (is_wanting_below heads 0 facts c) rules) (none_below (shape_of r.rule)) ∙ ap (λ t. t || list_any (is_wanting_below heads 0 facts c) rules) (nothing (is_of c r)) ∙ any_at_first heads facts c rules
  where
    nothing : (o : Bool) → (o && false) ≡ false
    nothing true = refl
    nothing false = refl

pub any_at_last : (heads : Heads) (facts : Facts) (c : ℕ) (rules : List OwnedRule) → list_any (is_wanting_below heads 48 facts c) rules ≡ has_fitting heads rules facts c
any_at_last heads facts c [] = refl
any_at_last heads facts c (r ∷ rules) = ap (λ t. t || list_any (is_wanting_below heads 48 facts c) rules) here ∙ ap (λ t. (is_of c r && fits heads r.rule facts) || t) (any_at_last heads facts c rules)
  where
    low : nat_lt (shape_of r.rule) 48 ≡ true
    low = let few = shape_few r.rule in grind (arith, nat_tests)

    by_fit : (o n f : Bool) → (f ≡ true → n ≡ true) → (o && ((true && n) && f)) ≡ (o && f)
    by_fit true true f only = refl
    by_fit true false true only = absurd (true≢false (sym (only refl)))
    by_fit true false false only = refl
    by_fit false n f only = refl

    here : is_wanting_below heads 48 facts c r ≡ (is_of c r && fits heads r.rule facts)
    here = ap (λ t. is_of c r && ((t && is_near facts r.rule) && fits heads r.rule facts)) low ∙ by_fit (is_of c r) (is_near facts r.rule) (fits heads r.rule facts) (fits_near heads r.rule facts)

pub count_at_last : (facts : Facts) (rules : List OwnedRule) → count_by (is_near_below 48 facts) rules ≡ near_rules facts rules
count_at_last facts [] = refl
count_at_last facts (r ∷ rules) =
    let low : nat_lt (shape_of r.rule) 48 ≡ true = let few = shape_few r.rule in grind (arith, nat_tests) in
    sum_by-cons (λ y. cond (is_near_below 48 facts y) 1 0) r rules ∙ ap (λ t. cond (t && is_near facts r.rule) 1 0 + count_by (is_near_below 48 facts) rules) low
    ∙ ap (λ n. cond (is_near facts r.rule) 1 0 + n) (count_at_last facts rules) ∙ sym (sum_by-cons (λ y. cond (is_near facts y.rule) 1 0) r rules)

-- ## Connections that have rules

owned_too : (rules : List OwnedRule) (r : OwnedRule) (n : ℕ) → is_in n (connections_of rules) ≡ true → is_in n (connections_of (r ∷ rules)) ≡ true
owned_too rules r n h = in_with n r.connection (connections_of rules) ∙ ap (λ t. t || (r.connection == n)) h

own_in : (rules : List OwnedRule) (r : OwnedRule) → is_in r.connection (connections_of (r ∷ rules)) ≡ true
own_in rules r = in_with r.connection r.connection (connections_of rules) ∙ ap (λ t. is_in r.connection (connections_of rules) || t) (eq-eqb r.connection r.connection refl) ∙ last (is_in r.connection (connections_of rules))
  where
    last : (b : Bool) → (b || true) ≡ true
    last true = refl
    last false = refl

-- the rules that have a code are of connections that have rules
pub coded_owned : (k : ℕ) (es : List Entry) → AreOwned (live es) (filter (has_key by_code k) es)
coded_owned k [] = tt
coded_owned k (e ∷ es) = by_test (is_there e) (e.bucket.code == k) (coded_owned k es)
  where
    by_test : (a b : Bool) → AreOwned (live es) (filter (has_key by_code k) es) →
        AreOwned (map owned_rule (cond a (e ∷ filter is_there es) (filter is_there es))) (cond (a && b) (e ∷ filter (has_key by_code k) es) (filter (has_key by_code k) es))
    by_test true true rest = (own_in (live es) (owned_rule e), each_weaker _ _ (λ x h. owned_too (live es) (owned_rule e) x.connection h) (filter (has_key by_code k) es) rest)
    by_test true false rest = each_weaker _ _ (λ x h. owned_too (live es) (owned_rule e) x.connection h) (filter (has_key by_code k) es) rest
    by_test false b rest = rest

-- ## A shape that no rule has

-- no rule is of a shape that is not marked
no_shape : (shapes : List Bool) (shape : ℕ) (e : Entry) → e.bucket ≡ bucket_of e.rule → get_or shapes e.bucket.shape false ≡ true → get_or shapes shape false ≡ false → (shape_of e.rule == shape) ≡ false
no_shape shapes shape e filed marked unmarked =
    ne_eqb (shape_of e.rule) shape (λ same. true≢false (sym marked ∙ ap (λ b. get_or shapes b.shape false) filed ∙ ap (λ n. get_or shapes n false) same ∙ unmarked))

pub any_of_none : (heads : Heads) (shapes : List Bool) (shape : ℕ) (facts : Facts) (c : ℕ) (es : List Entry) → AreFiled es → AreShaped shapes es → get_or shapes shape false ≡ false → list_any (is_wanting_at heads shape facts c) (live es) ≡ false
any_of_none heads shapes shape facts c [] filed shaped unmarked = refl
any_of_none heads shapes shape facts c (e ∷ es) filed shaped unmarked = by_test (is_there e) (any_of_none heads shapes shape facts c es filed.1 shaped.1 unmarked)
  where
    nothing : (o n f : Bool) → (o && ((false && n) && f)) ≡ false
    nothing true n f = refl
    nothing false n f = refl

    here : is_wanting_at heads shape facts c (owned_rule e) ≡ false
    here = ap (λ t. is_of c (owned_rule e) && ((t && is_near facts e.rule) && fits heads e.rule facts)) (no_shape shapes shape e filed.0 shaped.0 unmarked) ∙ nothing (is_of c (owned_rule e)) (is_near facts e.rule) (fits heads e.rule facts)

    by_test : (b : Bool) → list_any (is_wanting_at heads shape facts c) (live es) ≡ false → list_any (is_wanting_at heads shape facts c) (map owned_rule (cond b (e ∷ filter is_there es) (filter is_there es))) ≡ false
    by_test true rest = ap (λ t. t || list_any (is_wanting_at heads shape facts c) (live es)) here ∙ rest
    by_test false rest = rest

pub any_skipped : (heads : Heads) (shapes : List Bool) (shape : ℕ) (facts : Facts) (c : ℕ) (es : List Entry) → AreFiled es → AreShaped shapes es → get_or shapes shape false ≡ false →
    list_any (is_wanting_below heads shape facts c) (live es) ≡ list_any (is_wanting_below heads (shape + 1) facts c) (live es)
any_skipped heads shapes shape facts c es filed shaped unmarked =
    sym (any_next heads shape facts c (live es) ∙ ap (λ t. list_any (is_wanting_below heads shape facts c) (live es) || t) (any_of_none heads shapes shape facts c es filed shaped unmarked) ∙ last (list_any (is_wanting_below heads shape facts c) (live es)))
  where
    last : (b : Bool) → (b || false) ≡ b
    last true = refl
    last false = refl
