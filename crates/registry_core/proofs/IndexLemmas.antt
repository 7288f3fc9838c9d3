-- The names of each connection by rising bytes.
use Rattle.std.proofs.Common.{◌≡◌, ℕ, zero, suc, ◌+◌, ◌<◌, ◌==◌, Bool, true, false, if◌then◌else◌, Some, option_map, List, [], ◌∷◌, length, take, drop, insert, remove, get_or, refl, sym, ap, ◌∙◌, subst, arith}
use Rattle.std.specs.List.{AllByRecursion as Each, position, sum_by}
use Rattle.std.proofs.Math.ListN.{set}
use Rattle.std.proofs.lemmas.Bool.{eq-eqb, eqb-true}
use Rattle.std.proofs.lemmas.List.Sums.{sum_by-cons, sum_by-remove}
use Rattle.names.specs.Texts.{Text, text_eq, text_lt}
use Rattle.seq_bus_core.proofs.TextLemmas.{text_lt-trans, text_eq-true, text_lt-back, text_lt-other}
use Rattle.match_index.specs.PlaceIndexes.{places_of}
use Rattle.match_index.specs.declared.place_index.KeyedPlace.{KeyedPlace}
use Rattle.match_index.proofs.Lists.{each_weaker, pairs_inserted, pairs_removed, first_place, position_is}
use Rattle.registry_core.specs.NameIndexes.{held, name_at, AreByName, AreSorted}

-- ## The search

-- a name that does not come behind another comes before what the other comes before
pub before_too : (a b name : Text) → text_lt b a ≡ false → text_lt b name ≡ true → text_lt a name ≡ true
before_too a b name not_below below = by_test (text_eq a b) refl
  where
    by_test : (t : Bool) → text_eq a b ≡ t → text_lt a name ≡ true
    by_test true same = subst (λ t. text_lt t name ≡ true) (sym (text_eq-true a b same)) below
    by_test false other = text_lt-trans a b name (text_lt-other b a not_below other) below

-- ## The order

-- the names of one connection changed
pub sorted_own : (names : List Text) (c : ℕ) (xs ys : List KeyedPlace) → AreSorted names xs → AreByName names (places_of c ys) → ((k : ℕ) → (c == k) ≡ false → places_of k ys ≡ places_of k xs) → AreSorted names ys
sorted_own names c xs ys h its others k = by_test (c == k) refl
  where
    by_test : (t : Bool) → (c == k) ≡ t → AreByName names (places_of k ys)
    by_test true same = subst (λ m. AreByName names (places_of m ys)) (eqb-true c k same) its
    by_test false other = subst (AreByName names) (sym (others k other)) (h k)

pub by_name_inserted : (names : List Text) (ids : List ℕ) (n id : ℕ) → AreByName names ids → Each (λ i. text_lt (name_at names i) (name_at names id) ≡ true) (take n ids) →
    Each (λ i. text_lt (name_at names i) (name_at names id) ≡ false) (drop n ids) → AreByName names (insert ids n id)
by_name_inserted names ids n id h before behind =
    pairs_inserted (λ i j. text_lt (name_at names j) (name_at names i) ≡ false) ids n id h
    (each_weaker (λ i. text_lt (name_at names i) (name_at names id) ≡ true) (λ i. text_lt (name_at names id) (name_at names i) ≡ false) (λ i lt. text_lt-back (name_at names i) (name_at names id) lt) (take n ids) before) behind

pub by_name_removed : (names : List Text) (ids : List ℕ) (n : ℕ) → AreByName names ids → AreByName names (remove ids n)
by_name_removed names ids n h = pairs_removed (λ i j. text_lt (name_at names j) (name_at names i) ≡ false) ids n h

-- ## Another name

pub name_other : (names : List Text) (i j : ℕ) (name : Text) → (j ≡ i → ⊥) → name_at (set names i name) j ≡ name_at names j
name_other [] i j name differs = refl
name_other (n ∷ names) zero zero name differs = absurd (differs refl)
name_other (n ∷ names) zero (suc j) name differs = refl
name_other (n ∷ names) (suc i) zero name differs = refl
name_other (n ∷ names) (suc i) (suc j) name differs = name_other names i j name (λ e. differs (ap suc e))

pub name_own : (names : List Text) (i : ℕ) (name : Text) → i < length names → name_at (set names i name) i ≡ name
name_own [] i name lt = absurd (omega (arith, lt))
name_own (n ∷ names) zero name lt = refl
name_own (n ∷ names) (suc i) name lt = name_own names i name (omega (arith, lt))

abbrev pub one_at : ℕ → ℕ → ℕ
one_at id i = if i == id then 1 else 0

-- how often a number stands among others
abbrev pub times : ℕ → List ℕ → ℕ
times id ids = sum_by (one_at id) ids

unused_each : (id : ℕ) (ids : List ℕ) → times id ids ≡ 0 → Each (λ i. i ≡ id → ⊥) ids
unused_each id [] none = tt
unused_each id (i ∷ ids) none =
    let whole : times id (i ∷ ids) ≡ one_at id i + times id ids = sum_by-cons (one_at id) i ids in
    (λ same. let one : one_at id i ≡ 1 = rw (eq-eqb i id same) refl in omega (arith, one, none, whole), unused_each id ids (omega (arith, none, whole)))

by_name_renamed : (names : List Text) (id : ℕ) (name : Text) (ids : List ℕ) → Each (λ i. i ≡ id → ⊥) ids → AreByName names ids → AreByName (set names id name) ids
by_name_renamed names id name [] unused h = tt
by_name_renamed names id name (i ∷ ids) unused h = (each ids unused.1 h.0, by_name_renamed names id name ids unused.1 h.1)
  where
    each : (js : List ℕ) → Each (λ j. j ≡ id → ⊥) js → Each (λ j. text_lt (name_at names j) (name_at names i) ≡ false) js → Each (λ j. text_lt (name_at (set names id name) j) (name_at (set names id name) i) ≡ false) js
    each [] others k = tt
    each (j ∷ js) others k = (
      ap (λ t. text_lt t (name_at (set names id name) i)) (name_other names id j name others.0) ∙ ap (text_lt (name_at names j)) (name_other names id i name unused.0) ∙ k.0,
      each js others.1 k.1,
    )

pub sorted_renamed : (names : List Text) (id : ℕ) (name : Text) (xs : List KeyedPlace) → ((c : ℕ) → held c id xs ≡ 0) → AreSorted names xs → AreSorted (set names id name) xs
sorted_renamed names id name xs unused h c = by_name_renamed names id name (places_of c xs) (unused_each id (places_of c xs) (unused c)) (h c)

-- ## One name of a connection less

pub held_less : (xs ys : List KeyedPlace) (c n id : ℕ) → places_of c ys ≡ remove (places_of c xs) n → ((k : ℕ) → (c == k) ≡ false → places_of k ys ≡ places_of k xs) → n < length (places_of c xs) → get_or (places_of c xs) n 0 ≡ id → (k : ℕ) →
    held k id ys + (if c == k then 1 else 0) ≡ held k id xs
held_less xs ys c n id its others lt is k = by_test (c == k) refl
  where
    by_test : (t : Bool) → (c == k) ≡ t → held k id ys + (if t then 1 else 0) ≡ held k id xs
    by_test true same =
        let fewer : held c id ys ≡ times id (remove (places_of c xs) n) = ap (times id) its in
        let whole : times id (remove (places_of c xs) n) + one_at id (get_or (places_of c xs) n 0) ≡ held c id xs = sum_by-remove (one_at id) (places_of c xs) n 0 lt in
        let one : one_at id (get_or (places_of c xs) n 0) ≡ 1 = rw (eq-eqb (get_or (places_of c xs) n 0) id is) refl in
        subst (λ m. held m id ys + 1 ≡ held m id xs) (eqb-true c k same) (omega (arith, fewer, whole, one))
    by_test false other = let same : held k id ys ≡ held k id xs = ap (times id) (others k other) in omega (arith, same)

pub held_still : (xs ys : List KeyedPlace) (c n id : ℕ) → places_of c ys ≡ remove (places_of c xs) n → ((k : ℕ) → (c == k) ≡ false → places_of k ys ≡ places_of k xs) → n < length (places_of c xs) → get_or (places_of c xs) n 0 ≡ id → (k i : ℕ) →
    (id == i) ≡ false → held k i ys ≡ held k i xs
held_still xs ys c n id its others lt is k i differs = by_test (c == k) refl
  where
    by_test : (t : Bool) → (c == k) ≡ t → held k i ys ≡ held k i xs
    by_test true same =
        let fewer : held c i ys ≡ times i (remove (places_of c xs) n) = ap (times i) its in
        let whole : times i (remove (places_of c xs) n) + one_at i (get_or (places_of c xs) n 0) ≡ held c i xs = sum_by-remove (one_at i) (places_of c xs) n 0 lt in
        let none : one_at i (get_or (places_of c xs) n 0) ≡ 0 = rw (is, differs) refl in
        subst (λ m. held m i ys ≡ held m i xs) (eqb-true c k same) (omega (arith, fewer, whole, none))
    by_test false other = ap (times i) (others k other)

-- where a number first stands among others
record IsFoundAt (id : ℕ) (ids : List ℕ) : Type 0 where
  n : ℕ
  first : first_place (λ i. i == id) ids ≡ Some n
  there : n < length ids
  its : get_or ids n 0 ≡ id

skipped : (id i n : ℕ) (ids : List ℕ) → (i == id) ≡ false → first_place (λ j. j == id) ids ≡ Some n → first_place (λ j. j == id) (i ∷ ids) ≡ Some (suc n)
skipped id i n ids other first = rw other (ap (option_map suc) first)

found_in : (id : ℕ) (ids : List ℕ) → 0 < times id ids → IsFoundAt id ids
found_in id [] some = absurd (omega (arith, some))
found_in id (i ∷ ids) some = by_test (i == id) refl (λ more. found_in id ids more)
  where
    by_test : (t : Bool) → (i == id) ≡ t → (0 < times id ids → IsFoundAt id ids) → IsFoundAt id (i ∷ ids)
    by_test true same others = record { n = 0; first = rw same refl; there = omega arith; its = eqb-true i id same }
    by_test false other others =
        let whole : times id (i ∷ ids) ≡ one_at id i + times id ids = sum_by-cons (one_at id) i ids in
        let none : one_at id i ≡ 0 = rw other refl in
        let rest : IsFoundAt id ids = others (omega (arith, whole, none, some)) in
        let there : rest.n < length ids = rest.there in
        record { n = suc rest.n; first = skipped id i rest.n ids other rest.first; there = omega (arith, there); its = rest.its }

-- a number that is counted is found
pub found_number : (id : ℕ) (ids : List ℕ) (n : ℕ) → 0 < times id ids → ((m : ℕ) → position (λ i. i == id) ids ≡ Some m → n ≡ m) → (n < length ids) × (get_or ids n 0 ≡ id)
found_number id ids n some is =
    let at : IsFoundAt id ids = found_in id ids some in
    let same : n ≡ at.n = is at.n (position_is (λ i. i == id) ids ∙ at.first) in
    (subst (λ k. k < length ids) (sym same) at.there, ap (λ k. get_or ids k 0) same ∙ at.its)
