-- Rules in an index, of which some are gone.
use Rattle.std.proofs.Common.{◌≡◌, ℕ, zero, suc, ◌+◌, ◌<◌, ◌≤◌, length, get_or, set, take, remove, arith, Bool, true, false, cond, not, ◌&&◌, ◌||◌, ◌==◌, Option, Some, None, option_map, List, [], ◌∷◌, ◌++◌, map, filter, refl, sym, ap, ◌∙◌, subst, if◌then◌else◌}
use Rattle.std.specs.List.{AllByRecursion as Each, flat_map, list_any}
use Rattle.std.proofs.lemmas.Bool.Decides.{nat_tests}
use Rattle.std.proofs.lemmas.Bool.{and_parts, eq-eqb, eqb-true, true≢false}
use Rattle.std.proofs.lemmas.List.{map-append}
use Rattle.std.proofs.lemmas.List.Sums.{sum_by-cons}
use Rattle.std.proofs.lemmas.List.Folds.{flat_map-map}
use Rattle.match_rules.specs.Rules.{Rule, same_rule}
use Rattle.match_rules.specs.OwnedRules.{OwnedRule, count_of, is_of, is_rule_of, rules_by, rules_without, without_first}
use Rattle.match_index.specs.Entries.{Key, by_connection, has_key, has_rule, is_there, live, marked, new_places, owned_rule, positions, rule_at}
use Rattle.match_index.specs.declared.entries.Entry.{Entry}
use Rattle.match_index.proofs.Lists.{first_place, list_any-map, one_done}

-- ## The entry at a place

pub has_rule_at : (rule : Rule) (es : List Entry) (k : ℕ) (d : Entry) → k < length es → has_rule rule es k ≡ same_rule (get_or es k d).rule rule
has_rule_at rule [] k d lt = absurd (omega (arith, lt))
has_rule_at rule (e ∷ es) zero d lt = refl
has_rule_at rule (e ∷ es) (suc k) d lt = has_rule_at rule es k d (omega (arith, lt))

pub has_rule_none : (rule : Rule) (es : List Entry) (k : ℕ) → length es ≤ k → has_rule rule es k ≡ false
has_rule_none rule [] k le = refl
has_rule_none rule (e ∷ es) zero le = absurd (omega (arith, le))
has_rule_none rule (e ∷ es) (suc k) le = has_rule_none rule es k (omega (arith, le))

pub rule_at_is : (es : List Entry) (k : ℕ) (d : Entry) → k < length es → rule_at es k ≡ (get_or es k d).rule ∷ []
rule_at_is [] k d lt = absurd (omega (arith, lt))
rule_at_is (e ∷ es) zero d lt = refl
rule_at_is (e ∷ es) (suc k) d lt = rule_at_is es k d (omega (arith, lt))

pub rule_at_none : (es : List Entry) (k : ℕ) → length es ≤ k → rule_at es k ≡ []
rule_at_none [] k le = refl
rule_at_none (e ∷ es) zero le = absurd (omega (arith, le))
rule_at_none (e ∷ es) (suc k) le = rule_at_none es k (omega (arith, le))

pub marked_is : (es : List Entry) (k : ℕ) (d : Entry) → k < length es → set es k (record (get_or es k d) { is_gone = true }) ≡ marked es k
marked_is [] k d lt = absurd (omega (arith, lt))
marked_is (e ∷ es) zero d lt = refl
marked_is (e ∷ es) (suc k) d lt = ap (λ rest. e ∷ rest) (marked_is es k d (omega (arith, lt)))

pub length_marked : (es : List Entry) (k : ℕ) → length (marked es k) ≡ length es
length_marked [] k = refl
length_marked (e ∷ es) zero = refl
length_marked (e ∷ es) (suc k) = ap suc (length_marked es k)

-- ## The places of a key

pub first_place-map : {X Y : Type 0} (test : Y → Bool) (f : X → Y) (xs : List X) → first_place test (map f xs) ≡ first_place (λ x. test (f x)) xs
first_place-map test f [] = refl
first_place-map test f (x ∷ xs) = ap (λ o. if test (f x) then Some 0 else option_map suc o) (first_place-map test f xs)

pub rules_at_positions : (c : ℕ) (es : List Entry) → flat_map (rule_at es) (positions by_connection c es) ≡ rules_by c (live es)
rules_at_positions c [] = refl
rules_at_positions c (e ∷ es) = by_test e.is_gone refl (e.connection == c) refl (flat_map-map (rule_at (e ∷ es)) suc (positions by_connection c es) ∙ rules_at_positions c es)
  where
    by_test : (g : Bool) → e.is_gone ≡ g → (s : Bool) → (e.connection == c) ≡ s → flat_map (rule_at (e ∷ es)) (map suc (positions by_connection c es)) ≡ rules_by c (live es) →
        flat_map (rule_at (e ∷ es)) (positions by_connection c (e ∷ es)) ≡ rules_by c (live (e ∷ es))
    by_test true gone s same rest = rw gone rest
    by_test false gone true same rest = rw (gone, same) (ap (λ more. e.rule ∷ more) rest)
    by_test false gone false same rest = rw (gone, same) rest

length_suc : (xs : List ℕ) → length (map suc xs) ≡ length xs
length_suc [] = refl
length_suc (x ∷ xs) = ap suc (length_suc xs)

pub count_positions : (c : ℕ) (es : List Entry) → length (positions by_connection c es) ≡ count_of c (live es)
count_positions c [] = refl
count_positions c (e ∷ es) = by_test e.is_gone refl (e.connection == c) refl (length_suc (positions by_connection c es) ∙ count_positions c es)
  where
    whole : count_of c (owned_rule e ∷ live es) ≡ (if e.connection == c then 1 else 0) + count_of c (live es)
    whole = sum_by-cons (λ (r : OwnedRule). if is_of c r then 1 else 0) (owned_rule e) (live es)

    by_test : (g : Bool) → e.is_gone ≡ g → (s : Bool) → (e.connection == c) ≡ s → length (map suc (positions by_connection c es)) ≡ count_of c (live es) → length (positions by_connection c (e ∷ es)) ≡ count_of c (live (e ∷ es))
    by_test true gone s same rest = rw gone rest
    by_test false gone true same rest =
        let one : ◌≡◌ {A = ℕ} (if e.connection == c then 1 else 0) 1 = rw same refl in
        let more : length (positions by_connection c (e ∷ es)) ≡ suc (length (map suc (positions by_connection c es))) = rw (gone, same) refl in
        let there : count_of c (live (e ∷ es)) ≡ count_of c (owned_rule e ∷ live es) = rw gone refl in
        omega (arith, whole, one, more, there, rest)
    by_test false gone false same rest =
        let none : ◌≡◌ {A = ℕ} (if e.connection == c then 1 else 0) 0 = rw same refl in
        let as_many : length (positions by_connection c (e ∷ es)) ≡ length (map suc (positions by_connection c es)) = rw (gone, same) refl in
        let there : count_of c (live (e ∷ es)) ≡ count_of c (owned_rule e ∷ live es) = rw gone refl in
        omega (arith, whole, none, as_many, there, rest)

pub any_position : (c : ℕ) (rule : Rule) (es : List Entry) → list_any (has_rule rule es) (positions by_connection c es) ≡ list_any (is_rule_of c rule) (live es)
any_position c rule [] = refl
any_position c rule (e ∷ es) = by_test e.is_gone refl (e.connection == c) refl (list_any-map (has_rule rule (e ∷ es)) suc (positions by_connection c es) ∙ any_position c rule es)
  where
    by_test : (g : Bool) → e.is_gone ≡ g → (s : Bool) → (e.connection == c) ≡ s → list_any (has_rule rule (e ∷ es)) (map suc (positions by_connection c es)) ≡ list_any (is_rule_of c rule) (live es) →
        list_any (has_rule rule (e ∷ es)) (positions by_connection c (e ∷ es)) ≡ list_any (is_rule_of c rule) (live (e ∷ es))
    by_test true gone s same rest = rw gone rest
    by_test false gone true same rest = rw (gone, same) (ap (λ more. same_rule e.rule rule || more) rest)
    by_test false gone false same rest = rw (gone, same) rest

each_suc : (n : ℕ) (xs : List ℕ) → Each (λ k. k < n) xs → Each (λ k. k < suc n) (map suc xs)
each_suc n [] h = tt
each_suc n (x ∷ xs) h = (omega (arith, h.0), each_suc n xs h.1)

pub positions_within : (key : Key) (c : ℕ) (es : List Entry) → Each (λ k. k < length es) (positions key c es)
positions_within key c [] = tt
positions_within key c (e ∷ es) = by_test (has_key key c e) (each_suc (length es) (positions key c es) (positions_within key c es))
  where
    by_test : (b : Bool) → Each (λ k. k < suc (length es)) (map suc (positions key c es)) → Each (λ k. k < suc (length es)) (if b then 0 ∷ map suc (positions key c es) else map suc (positions key c es))
    by_test true h = (omega arith, h)
    by_test false h = h

-- ## One more rule

pub position_added : (key : Key) (c : ℕ) (es : List Entry) (e : Entry) → positions key c (es ++ e ∷ []) ≡ positions key c es ++ (if has_key key c e then length es ∷ [] else [])
position_added key c [] e = by_test (has_key key c e)
  where
    by_test : (b : Bool) → ◌≡◌ {A = List ℕ} (if b then 0 ∷ [] else []) (if b then 0 ∷ [] else [])
    by_test true = refl
    by_test false = refl
position_added key c (x ∷ es) e = by_test (has_key key c x) (shifted (position_added key c es e))
  where
    one_suc : (b : Bool) → map suc (if b then length es ∷ [] else []) ≡ (if b then suc (length es) ∷ [] else [])
    one_suc true = refl
    one_suc false = refl

    shifted : positions key c (es ++ e ∷ []) ≡ positions key c es ++ (if has_key key c e then length es ∷ [] else []) → map suc (positions key c (es ++ e ∷ [])) ≡ map suc (positions key c es) ++ (if has_key key c e then suc (length es) ∷ [] else [])
    shifted h =
        ap (map suc) h ∙ map-append suc (positions key c es) (if has_key key c e then length es ∷ [] else []) ∙ ap (λ rest. map suc (positions key c es) ++ rest) (one_suc (has_key key c e))

    by_test : (b : Bool) → map suc (positions key c (es ++ e ∷ [])) ≡ map suc (positions key c es) ++ (if has_key key c e then suc (length es) ∷ [] else []) →
        (if b then 0 ∷ map suc (positions key c (es ++ e ∷ [])) else map suc (positions key c (es ++ e ∷ []))) ≡ (if b then 0 ∷ map suc (positions key c es) else map suc (positions key c es)) ++ (if has_key key c e then suc (length es) ∷ [] else [])
    by_test true h = ap (λ rest. 0 ∷ rest) h
    by_test false h = h

pub live_added : (es : List Entry) (e : Entry) → live (es ++ e ∷ []) ≡ live es ++ (if is_there e then owned_rule e ∷ [] else [])
live_added es e = one_done owned_rule is_there es e

pub live_few : (es : List Entry) → length (live es) ≤ length es
live_few [] = omega arith
live_few (e ∷ es) = by_test e.is_gone refl (live_few es)
  where
    by_test : (g : Bool) → e.is_gone ≡ g → length (live es) ≤ length es → length (live (e ∷ es)) ≤ length (e ∷ es)
    by_test true gone rest = rw gone (omega (arith, rest))
    by_test false gone rest = rw gone (omega (arith, rest))

-- ## One rule less

-- a place of the rules that have a key, counted from 0
pub data IsNth : Key → ℕ → ℕ → List Entry → ℕ → Type 0 where
  here : {key : Key} {c : ℕ} {e : Entry} {es : List Entry} → has_key key c e ≡ true → IsNth key c zero (e ∷ es) zero
  behind_own : {key : Key} {c j p : ℕ} {e : Entry} {es : List Entry} → has_key key c e ≡ true → IsNth key c j es p → IsNth key c (suc j) (e ∷ es) (suc p)
  behind_other : {key : Key} {c j p : ℕ} {e : Entry} {es : List Entry} → has_key key c e ≡ false → IsNth key c j es p → IsNth key c j (e ∷ es) (suc p)

suc_at : (xs : List ℕ) (j : ℕ) → j < length xs → get_or (map suc xs) j 0 ≡ suc (get_or xs j 0)
suc_at [] j lt = absurd (omega (arith, lt))
suc_at (x ∷ xs) zero lt = refl
suc_at (x ∷ xs) (suc j) lt = suc_at xs j (omega (arith, lt))

pub nth_position : (key : Key) (c j : ℕ) (es : List Entry) → j < length (positions key c es) → IsNth key c j es (get_or (positions key c es) j 0)
nth_position key c j [] lt = absurd (omega (arith, lt))
nth_position key c j (e ∷ es) lt = by_test j (has_key key c e) refl lt (λ i less. nth_position key c i es less)
  where
    by_test : (i : ℕ) (b : Bool) → has_key key c e ≡ b → i < length (if b then 0 ∷ map suc (positions key c es) else map suc (positions key c es)) →
        ((k : ℕ) → k < length (positions key c es) → IsNth key c k es (get_or (positions key c es) k 0)) → IsNth key c i (e ∷ es) (get_or (if b then 0 ∷ map suc (positions key c es) else map suc (positions key c es)) i 0)
    by_test zero true is less others = here is
    by_test (suc i) true is less others =
        let within : i < length (positions key c es) = omega (arith, less, length_suc (positions key c es)) in
        subst (IsNth key c (suc i) (e ∷ es)) (sym (suc_at (positions key c es) i within)) (behind_own is (others i within))
    by_test i false is less others =
        let within : i < length (positions key c es) = omega (arith, less, length_suc (positions key c es)) in
        subst (IsNth key c i (e ∷ es)) (sym (suc_at (positions key c es) i within)) (behind_other is (others i within))

suc_removed : (xs : List ℕ) (j : ℕ) → map suc (remove xs j) ≡ remove (map suc xs) j
suc_removed [] zero = refl
suc_removed [] (suc j) = refl
suc_removed (x ∷ xs) zero = refl
suc_removed (x ∷ xs) (suc j) = ap (λ rest. suc x ∷ rest) (suc_removed xs j)

pub taken_own : (key : Key) (c j : ℕ) (es : List Entry) (p : ℕ) → IsNth key c j es p → positions key c (marked es p) ≡ remove (positions key c es) j
taken_own key c j [] p h = elim h [ ]
taken_own key c (suc j) (e ∷ es) zero h = elim h [ ]
taken_own key c zero (e ∷ es) zero (here is) = rw is refl
taken_own key c (suc j) (e ∷ es) (suc p) (behind_own is h) = rw is (ap (λ rest. 0 ∷ rest) (ap (map suc) (taken_own key c j es p h) ∙ suc_removed (positions key c es) j))
taken_own key c j (e ∷ es) (suc p) (behind_other is h) = rw is (ap (map suc) (taken_own key c j es p h) ∙ suc_removed (positions key c es) j)

has_key_parts : (key : Key) (c : ℕ) (e : Entry) → has_key key c e ≡ true → (e.is_gone ≡ false) × (key e ≡ c)
has_key_parts key c e is = by_test e.is_gone refl (and_parts (is_there e) (key e == c) is)
  where
    by_test : (g : Bool) → e.is_gone ≡ g → (not e.is_gone ≡ true) × ((key e == c) ≡ true) → (e.is_gone ≡ false) × (key e ≡ c)
    by_test true gone parts = absurd (true≢false (sym (sym (ap not gone) ∙ parts.0)))
    by_test false gone parts = (gone, eqb-true (key e) c parts.1)

both : (a b : Bool) → a ≡ true → b ≡ true → (a && b) ≡ true
both true b e h = h
both false b e h = absurd (true≢false (sym e))

second_fails : (a b : Bool) → b ≡ false → (a && b) ≡ false
second_fails true b e = e
second_fails false b e = refl

first_fails : (a b : Bool) → a ≡ false → (a && b) ≡ false
first_fails true b e = absurd (true≢false e)
first_fails false b e = refl

has_key_other : (key : Key) (c k : ℕ) (e : Entry) → has_key key c e ≡ true → (c == k) ≡ false → has_key key k e ≡ false
has_key_other key c k e is other = second_fails (is_there e) (key e == k) (ap (λ x. x == k) (has_key_parts key c e is).1 ∙ other)

pub taken_other : (key : Key) (k c j : ℕ) (es : List Entry) (p : ℕ) → IsNth key c j es p → (c == k) ≡ false → positions key k (marked es p) ≡ positions key k es
taken_other key k c j [] p h other = elim h [ ]
taken_other key k c (suc j) (e ∷ es) zero h other = elim h [ ]
taken_other key k c zero (e ∷ es) zero (here is) other = let differs : has_key key k e ≡ false = has_key_other key c k e is other in rw differs refl
taken_other key k c (suc j) (e ∷ es) (suc p) (behind_own is h) other = ap (λ ks. if has_key key k e then 0 ∷ map suc ks else map suc ks) (taken_other key k c j es p h other)
taken_other key k c j (e ∷ es) (suc p) (behind_other is h) other = ap (λ ks. if has_key key k e then 0 ∷ map suc ks else map suc ks) (taken_other key k c j es p h other)

one_behind : (e : Entry) (ys es : List Entry) → length (live ys) + 1 ≡ length (live es) → length (live (e ∷ ys)) + 1 ≡ length (live (e ∷ es))
one_behind e ys es h = by_test (is_there e)
  where
    by_test : (b : Bool) → length (map owned_rule (cond b (e ∷ filter is_there ys) (filter is_there ys))) + 1 ≡ length (map owned_rule (cond b (e ∷ filter is_there es) (filter is_there es)))
    by_test true = omega (arith, h)
    by_test false = h

pub taken_all : (key : Key) (c j : ℕ) (es : List Entry) (p : ℕ) → IsNth key c j es p → length (live (marked es p)) + 1 ≡ length (live es)
taken_all key c j [] p h = elim h [ ]
taken_all key c (suc j) (e ∷ es) zero h = elim h [ ]
taken_all key c zero (e ∷ es) zero (here is) = let there : e.is_gone ≡ false = (has_key_parts key c e is).0 in rw there (omega arith)
taken_all key c (suc j) (e ∷ es) (suc p) (behind_own is h) = one_behind e (marked es p) es (taken_all key c j es p h)
taken_all key c j (e ∷ es) (suc p) (behind_other is h) = one_behind e (marked es p) es (taken_all key c j es p h)

first_there : (test : ℕ → Bool) (ks : List ℕ) → first_place test (0 ∷ map suc ks) ≡ Some 0 → test 0 ≡ true
first_there test ks found = by_test (test 0) refl found
  where
    never : (o : Option ℕ) → option_map suc o ≡ Some 0 → ⊥
    never None is = cc
    never (Some k) is = cc

    by_test : (b : Bool) → test 0 ≡ b → (if b then Some 0 else option_map suc (first_place test (map suc ks))) ≡ Some 0 → test 0 ≡ true
    by_test true is h = is
    by_test false is h = absurd (never (first_place test (map suc ks)) h)

first_behind : (test : ℕ → Bool) (ks : List ℕ) (j : ℕ) → first_place test (0 ∷ map suc ks) ≡ Some (suc j) → (test 0 ≡ false) × (first_place (λ k. test (suc k)) ks ≡ Some j)
first_behind test ks j found = by_test (test 0) refl found
  where
    rest : (o : Option ℕ) → option_map suc o ≡ Some (suc j) → o ≡ Some j
    rest None is = cc
    rest (Some k) is = cc

    by_test : (b : Bool) → test 0 ≡ b → (if b then Some 0 else option_map suc (first_place test (map suc ks))) ≡ Some (suc j) → (test 0 ≡ false) × (first_place (λ k. test (suc k)) ks ≡ Some j)
    by_test true is h = cc
    by_test false is h = (is, sym (first_place-map test suc ks) ∙ rest (first_place test (map suc ks)) h)

-- the first rule that is equal
pub taken_first : (rule : Rule) (c j : ℕ) (es : List Entry) (p : ℕ) → IsNth by_connection c j es p → first_place (has_rule rule es) (positions by_connection c es) ≡ Some j →
    live (marked es p) ≡ without_first (is_rule_of c rule) (live es)
taken_first rule c j [] p h found = elim h [ ]
taken_first rule c (suc j) (e ∷ es) zero h found = elim h [ ]
taken_first rule c zero (e ∷ es) zero (here is) found =
    let parts = has_key_parts by_connection c e is in
    let same : same_rule e.rule rule ≡ true = first_there (has_rule rule (e ∷ es)) (positions by_connection c es) (subst (λ b. first_place (has_rule rule (e ∷ es)) (if b then 0 ∷ map suc (positions by_connection c es) else map suc (positions by_connection c es)) ≡ Some 0) is found) in
    let its : (e.connection == c) ≡ true = eq-eqb e.connection c parts.1 in
    rw (parts.0, its, same) refl
taken_first rule c (suc j) (e ∷ es) (suc p) (behind_own is h) found =
    let parts = has_key_parts by_connection c e is in
    let at = first_behind (has_rule rule (e ∷ es)) (positions by_connection c es) j (subst (λ b. first_place (has_rule rule (e ∷ es)) (if b then 0 ∷ map suc (positions by_connection c es) else map suc (positions by_connection c es)) ≡ Some (suc j)) is found) in
    let other : same_rule e.rule rule ≡ false = at.0 in
    let its : (e.connection == c) ≡ true = eq-eqb e.connection c parts.1 in
    rw (parts.0, its, other) (ap (λ rest. owned_rule e ∷ rest) (taken_first rule c j es p h at.1))
taken_first rule c j (e ∷ es) (suc p) (behind_other is h) found =
    let rest : live (marked es p) ≡ without_first (is_rule_of c rule) (live es) =
    taken_first rule c j es p h (sym (first_place-map (has_rule rule (e ∷ es)) suc (positions by_connection c es)) ∙ subst (λ b. first_place (has_rule rule (e ∷ es)) (if b then 0 ∷ map suc (positions by_connection c es) else map suc (positions by_connection c es)) ≡ Some j) is found) in
    by_test e.is_gone refl (e.connection == c) refl rest
  where
    by_test : (g : Bool) → e.is_gone ≡ g → (s : Bool) → (e.connection == c) ≡ s → live (marked es p) ≡ without_first (is_rule_of c rule) (live es) →
        live (e ∷ marked es p) ≡ without_first (is_rule_of c rule) (live (e ∷ es))
    by_test true gone s same rest = rw gone rest
    by_test false gone true same rest = absurd (true≢false (rw (gone, same) at is))
    by_test false gone false same rest = rw (gone, same) (ap (λ more. owned_rule e ∷ more) rest)

none_behind : (test : ℕ → Bool) (ks : List ℕ) → ◌≡◌ {A = Option ℕ} (first_place test (0 ∷ map suc ks)) None → (test 0 ≡ false) × (◌≡◌ {A = Option ℕ} (first_place (λ k. test (suc k)) ks) None)
none_behind test ks found = by_test (test 0) refl found
  where
    some_is_not_none : {j : ℕ} → ◌≡◌ {A = Option ℕ} (Some j) None → ⊥
    some_is_not_none is = cc

    rest : (o : Option ℕ) → ◌≡◌ {A = Option ℕ} (option_map suc o) None → ◌≡◌ {A = Option ℕ} o None
    rest None is = refl
    rest (Some j) is = absurd (some_is_not_none is)

    by_test : (b : Bool) → test 0 ≡ b → ◌≡◌ {A = Option ℕ} (if b then Some 0 else option_map suc (first_place test (map suc ks))) None → (test 0 ≡ false) × (◌≡◌ {A = Option ℕ} (first_place (λ k. test (suc k)) ks) None)
    by_test true is h = absurd (some_is_not_none h)
    by_test false is h = (is, sym (first_place-map test suc ks) ∙ rest (first_place test (map suc ks)) h)

pub none_taken : (c : ℕ) (rule : Rule) (es : List Entry) → ◌≡◌ {A = Option ℕ} (first_place (has_rule rule es) (positions by_connection c es)) None → without_first (is_rule_of c rule) (live es) ≡ live es
none_taken c rule [] found = refl
none_taken c rule (e ∷ es) found = by_test e.is_gone refl (e.connection == c) refl found (λ none. none_taken c rule es none)
  where
    by_test : (g : Bool) → e.is_gone ≡ g → (s : Bool) → (e.connection == c) ≡ s → ◌≡◌ {A = Option ℕ} (first_place (has_rule rule (e ∷ es)) (positions by_connection c (e ∷ es))) None →
        (◌≡◌ {A = Option ℕ} (first_place (has_rule rule es) (positions by_connection c es)) None → without_first (is_rule_of c rule) (live es) ≡ live es) →
        without_first (is_rule_of c rule) (live (e ∷ es)) ≡ live (e ∷ es)
    by_test true gone s same none others = rw gone (others (sym (first_place-map (has_rule rule (e ∷ es)) suc (positions by_connection c es)) ∙ rw gone at none))
    by_test false gone true same none others =
        let at = none_behind (has_rule rule (e ∷ es)) (positions by_connection c es) (rw (gone, same) at none) in
        let other : same_rule e.rule rule ≡ false = at.0 in
        rw (gone, same, other) (ap (λ more. owned_rule e ∷ more) (others at.1))
    by_test false gone false same none others =
        rw (gone, same) (ap (λ more. owned_rule e ∷ more) (others (sym (first_place-map (has_rule rule (e ∷ es)) suc (positions by_connection c es)) ∙ rw (gone, same) at none)))

-- ## Another key of the same rule

same_place : (f g : ℕ → Bool) → ((k : ℕ) → f k ≡ g k) → (ks : List ℕ) → first_place f ks ≡ first_place g ks
same_place f g same [] = refl
same_place f g same (k ∷ ks) = ap (λ b. if b then Some 0 else option_map suc (first_place f ks)) (same k) ∙ ap (λ o. if g k then Some 0 else option_map suc o) (same_place f g same ks)

suc_place : (p : ℕ) (ks : List ℕ) → first_place (λ k. k == suc p) (map suc ks) ≡ first_place (λ k. k == p) ks
suc_place p ks = first_place-map (λ k. k == suc p) suc ks ∙ same_place (λ k. suc k == suc p) (λ k. k == p) (λ k. shifted_test k (k == p) refl) ks
  where
    shifted_test : (k : ℕ) (b : Bool) → (k == p) ≡ b → (suc k == suc p) ≡ (k == p)
    shifted_test k true e = grind (arith, nat_tests)
    shifted_test k false e = grind (arith, nat_tests)

-- where the same rule stands among those that have another key
pub record IsAmong (key : Key) (k : ℕ) (es : List Entry) (p : ℕ) : Type 0 where
  pub place : ℕ
  pub nth : IsNth key k place es p
  pub found : first_place (λ q. q == p) (positions key k es) ≡ Some place

among_behind : (key : Key) (k : ℕ) (e : Entry) (es : List Entry) (p : ℕ) → IsAmong key k es p → IsAmong key k (e ∷ es) (suc p)
among_behind key k e es p h = by_test (has_key key k e) refl
  where
    not_first : (0 == suc p) ≡ false
    not_first = grind (arith, nat_tests)

    by_test : (b : Bool) → has_key key k e ≡ b → IsAmong key k (e ∷ es) (suc p)
    by_test true is = record {
      place = suc h.place;
      nth = behind_own is h.nth;
      found = ap (λ b. first_place (λ q. q == suc p) (if b then 0 ∷ map suc (positions key k es) else map suc (positions key k es))) is
          ∙ ap (λ b. if b then Some 0 else option_map suc (first_place (λ q. q == suc p) (map suc (positions key k es)))) not_first ∙ ap (option_map suc) (suc_place p (positions key k es) ∙ h.found);
    }
    by_test false is = record {
      place = h.place;
      nth = behind_other is h.nth;
      found = ap (λ b. first_place (λ q. q == suc p) (if b then 0 ∷ map suc (positions key k es) else map suc (positions key k es))) is ∙ suc_place p (positions key k es) ∙ h.found;
    }

pub among : (key by : Key) (c j : ℕ) (es : List Entry) (p : ℕ) (d : Entry) → IsNth by c j es p → IsAmong key (key (get_or es p d)) es p
among key by c j [] p d h = elim h [ ]
among key by c (suc j) (e ∷ es) zero d h = elim h [ ]
among key by c zero (e ∷ es) zero d (here is) =
    let its : has_key key (key e) e ≡ true = both (is_there e) (key e == key e) (ap not (has_key_parts by c e is).0) (eq-eqb (key e) (key e) refl) in
    record {
      place = 0;
      nth = here its;
      found = ap (λ b. first_place (λ q. q == 0) (if b then 0 ∷ map suc (positions key (key e) es) else map suc (positions key (key e) es))) its;
    }
among key by c (suc j) (e ∷ es) (suc p) d (behind_own is h) = among_behind key (key (get_or es p d)) e es p (among key by c j es p d h)
among key by c j (e ∷ es) (suc p) d (behind_other is h) = among_behind key (key (get_or es p d)) e es p (among key by c j es p d h)

-- ## Rules of others

more_rules : (c : ℕ) (e : Entry) (xs ys : List Entry) → rules_without c (live xs) ≡ rules_without c (live ys) → rules_without c (live (e ∷ xs)) ≡ rules_without c (live (e ∷ ys))
more_rules c e xs ys h = by_test e.is_gone refl
  where
    by_test : (g : Bool) → e.is_gone ≡ g → rules_without c (live (e ∷ xs)) ≡ rules_without c (live (e ∷ ys))
    by_test true gone = rw gone h
    by_test false gone = rw gone (ap (λ rest. cond (not (e.connection == c)) (owned_rule e ∷ rest) rest) h)

-- the rules of others stay, whichever rule of a connection is taken out
pub others_stay : (c j : ℕ) (es : List Entry) (p : ℕ) → IsNth by_connection c j es p → rules_without c (live (marked es p)) ≡ rules_without c (live es)
others_stay c j [] p h = elim h [ ]
others_stay c (suc j) (e ∷ es) zero h = elim h [ ]
others_stay c zero (e ∷ es) zero (here is) = let parts = has_key_parts by_connection c e is in let its : (e.connection == c) ≡ true = eq-eqb e.connection c parts.1 in rw (parts.0, its) refl
others_stay c (suc j) (e ∷ es) (suc p) (behind_own is h) = more_rules c e (marked es p) es (others_stay c j es p h)
others_stay c j (e ∷ es) (suc p) (behind_other is h) = more_rules c e (marked es p) es (others_stay c j es p h)

pub none_left : (c : ℕ) (es : List Entry) → length (positions by_connection c es) ≡ 0 → rules_without c (live es) ≡ live es
none_left c [] none = refl
none_left c (e ∷ es) none = by_test e.is_gone refl (e.connection == c) refl (none_left c es) (length_suc (positions by_connection c es))
  where
    by_test : (g : Bool) → e.is_gone ≡ g → (s : Bool) → (e.connection == c) ≡ s → (length (positions by_connection c es) ≡ 0 → rules_without c (live es) ≡ live es) →
        length (map suc (positions by_connection c es)) ≡ length (positions by_connection c es) → rules_without c (live (e ∷ es)) ≡ live (e ∷ es)
    by_test true gone s same rest as_many = let few : length (map suc (positions by_connection c es)) ≡ 0 = rw gone at none in rw gone (rest (omega (arith, few, as_many)))
    by_test false gone true same rest as_many = let many : suc (length (map suc (positions by_connection c es))) ≡ 0 = rw (gone, same) at none in absurd (omega (arith, many))
    by_test false gone false same rest as_many =
        let few : length (map suc (positions by_connection c es)) ≡ 0 = rw (gone, same) at none in
        rw (gone, same) (ap (λ more. owned_rule e ∷ more) (rest (omega (arith, few, as_many))))

-- ## Swept indexes

-- the number behind those that are told
abbrev pub told : ℕ → List Entry → ℕ
told n [] = n
told n (e ∷ es) = told (if e.is_gone then n else suc n) es

pub told_more : (n i : ℕ) (es : List Entry) (d : Entry) → i < length es → told n (take (suc i) es) ≡ (if (get_or es i d).is_gone then told n (take i es) else suc (told n (take i es)))
told_more n i [] d lt = absurd (omega (arith, lt))
told_more n zero (e ∷ es) d lt = refl
told_more n (suc i) (e ∷ es) d lt = told_more (if e.is_gone then n else suc n) i es d (omega (arith, lt))

map_suc : (f : ℕ → ℕ) (ks : List ℕ) → map f (map suc ks) ≡ map (λ k. f (suc k)) ks
map_suc f [] = refl
map_suc f (k ∷ ks) = ap (λ rest. f (suc k) ∷ rest) (map_suc f ks)

shifted : (n : ℕ) (ks : List ℕ) → map (λ k. suc n + k) ks ≡ map (λ k. n + k) (map suc ks)
shifted n [] = refl
shifted n (k ∷ ks) = let same : suc n + k ≡ n + suc k = omega arith in ap (λ m. m ∷ map (λ j. suc n + j) ks) same ∙ ap (λ rest. (n + suc k) ∷ rest) (shifted n ks)

pub swept_positions : (key : Key) (c n : ℕ) (es : List Entry) → map (λ k. get_or (new_places n es) k 0) (positions key c es) ≡ map (λ k. n + k) (positions key c (filter is_there es))
swept_positions key c n [] = refl
swept_positions key c n (e ∷ es) = by_test e.is_gone (has_key key c e) refl (λ gone. first_fails (is_there e) (key e == c) (ap not gone)) (swept_positions key c n es) (swept_positions key c (suc n) es)
  where
    behind : (m : ℕ) (ks : List ℕ) → map (λ k. get_or (n ∷ new_places m es) k 0) (map suc ks) ≡ map (λ k. get_or (new_places m es) k 0) ks
    behind m ks = map_suc (λ k. get_or (n ∷ new_places m es) k 0) ks

    first : n ≡ n + 0
    first = omega arith

    kept : (b : Bool) → has_key key c e ≡ b → map (λ k. n + k) (if b then 0 ∷ map suc (positions key c (filter is_there es)) else map suc (positions key c (filter is_there es))) ≡ map (λ k. n + k) (positions key c (e ∷ filter is_there es))
    kept b is = ap (λ t. map (λ k. n + k) (if t then 0 ∷ map suc (positions key c (filter is_there es)) else map suc (positions key c (filter is_there es)))) (sym is)

    by_test : (g h : Bool) → has_key key c e ≡ h → (g ≡ true → has_key key c e ≡ false) → map (λ k. get_or (new_places n es) k 0) (positions key c es) ≡ map (λ k. n + k) (positions key c (filter is_there es)) →
        map (λ k. get_or (new_places (suc n) es) k 0) (positions key c es) ≡ map (λ k. suc n + k) (positions key c (filter is_there es)) →
        map (λ k. get_or (n ∷ new_places (if g then n else suc n) es) k 0) (if h then 0 ∷ map suc (positions key c es) else map suc (positions key c es)) ≡ map (λ k. n + k) (positions key c (cond (not g) (e ∷ filter is_there es) (filter is_there es)))
    by_test true true is gone one more = absurd (true≢false (sym is ∙ gone refl))
    by_test true false is gone one more = behind n (positions key c es) ∙ one
    by_test false true is gone one more =
        ap (λ m. m ∷ map (λ k. get_or (n ∷ new_places (suc n) es) k 0) (map suc (positions key c es))) first
        ∙ ap (λ rest. (n + 0) ∷ rest) (behind (suc n) (positions key c es) ∙ more ∙ shifted n (positions key c (filter is_there es))) ∙ kept true is
    by_test false false is gone one more = behind (suc n) (positions key c es) ∙ more ∙ shifted n (positions key c (filter is_there es)) ∙ kept false is

from_zero : (ks : List ℕ) → map (λ k. 0 + k) ks ≡ ks
from_zero [] = refl
from_zero (k ∷ ks) = let same : 0 + k ≡ k = omega arith in ap (λ m. m ∷ map (λ j. 0 + j) ks) same ∙ ap (λ rest. k ∷ rest) (from_zero ks)

pub swept_places : (key : Key) (c : ℕ) (es : List Entry) → map (λ k. get_or (new_places 0 es) k 0) (positions key c es) ≡ positions key c (filter is_there es)
swept_places key c es = swept_positions key c 0 es ∙ from_zero (positions key c (filter is_there es))

pub swept_live : (es : List Entry) → live (filter is_there es) ≡ live es
swept_live [] = refl
swept_live (e ∷ es) = by_test e.is_gone refl (swept_live es)
  where
    by_test : (g : Bool) → e.is_gone ≡ g → live (filter is_there es) ≡ live es → live (filter is_there (e ∷ es)) ≡ live (e ∷ es)
    by_test true gone one = rw gone one
    by_test false gone one = rw gone (ap (λ rest. owned_rule e ∷ rest) one)

length_map : (es : List Entry) → length (map owned_rule es) ≡ length es
length_map [] = refl
length_map (e ∷ es) = ap suc (length_map es)

pub swept_length : (es : List Entry) → length (filter is_there es) ≡ length (live es)
swept_length es = sym (length_map (filter is_there es))

-- one entry more has its number
pub new_places_more : (n : ℕ) (es : List Entry) (e : Entry) → new_places n (es ++ e ∷ []) ≡ new_places n es ++ told n es ∷ []
new_places_more n [] e = refl
new_places_more n (x ∷ es) e = ap (λ rest. n ∷ rest) (new_places_more (if x.is_gone then n else suc n) es e)

pub told_next : (n : ℕ) (es : List Entry) (e : Entry) → told n (es ++ e ∷ []) ≡ (if e.is_gone then told n es else suc (told n es))
told_next n [] e = refl
told_next n (x ∷ es) e = told_next (if x.is_gone then n else suc n) es e

pub length_new_places : (n : ℕ) (es : List Entry) → length (new_places n es) ≡ length es
length_new_places n [] = refl
length_new_places n (e ∷ es) = ap suc (length_new_places (if e.is_gone then n else suc n) es)

take_few : (i : ℕ) (es : List Entry) → length (take i es) ≤ i
take_few zero es = omega arith
take_few (suc i) [] = omega arith
take_few (suc i) (e ∷ es) = let rest = take_few i es in omega (arith, rest)

pub length_take_few : (i : ℕ) (es : List Entry) (xs : List ℕ) → length xs ≡ length (take i es) → length xs ≤ i
length_take_few i es xs is = let few = take_few i es in omega (arith, is, few)
