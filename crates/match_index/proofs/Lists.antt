-- Lists: what holds of each element, of each pair, and where a test first passes.
use Rattle.std.proofs.Common.{◌≡◌, ℕ, zero, suc, ◌+◌, ◌<◌, ◌≤◌, nat_lt, nat_le, Bool, true, false, cond, ◌||◌, Option, Some, None, is_some, option_map, List, [], ◌∷◌, ◌++◌, map, filter, length, take, drop, insert, remove, get_or, add-one, refl, sym, ap, ◌∙◌, arith, if◌then◌else◌}
use Rattle.std.proofs.Math.Seq.{drop-cons, take-suc}
use Rattle.std.specs.List.{AllByRecursion as Each, AllWithin, list_any, position, position_or_len}
use Rattle.std.specs.List.Sorted.{IsPartitionPoint, IsPartitionedBy}
use Rattle.std.proofs.lemmas.Bool.Decides.{nat_tests}
pub use Rattle.match_rules.proofs.Lists.{each_weaker}
use Rattle.match_rules.specs.Lists.{Pairwise}

-- ## Each, and pairs

pub each_at : {X : Type 0} (P : X → Type 0) (xs : List X) (k : ℕ) (d : X) → Each P xs → k < length xs → P (get_or xs k d)
each_at P [] k d h lt = absurd (omega (arith, lt))
each_at P (x ∷ xs) zero d h lt = h.0
each_at P (x ∷ xs) (suc k) d h lt = each_at P xs k d h.1 (omega (arith, lt))

pub before_place : {X : Type 0} (P : X → Type 0) (xs : List X) (i : ℕ) → i ≤ length xs → AllWithin P xs 0 i → Each P (take i xs)
before_place P xs zero le h = tt
before_place P [] (suc i) le h = tt
before_place P (x ∷ xs) (suc i) le h = (h 0 x (omega arith) (omega arith), before_place P xs i (omega (arith, le)) (λ k d low high. h (suc k) d (omega arith) (omega (arith, high))))

pub behind_place : {X : Type 0} (P : X → Type 0) (xs : List X) (i : ℕ) → AllWithin P xs i (length xs) → Each P (drop i xs)
behind_place P [] zero h = tt
behind_place P [] (suc i) h = tt
behind_place P (x ∷ xs) zero h = (h 0 x (omega arith) (omega arith), behind_place P xs zero (λ k d low high. h (suc k) d (omega arith) (omega (arith, high))))
behind_place P (x ∷ xs) (suc i) h = behind_place P xs i (λ k d low high. h (suc k) d (omega (arith, low)) (omega (arith, high)))

pub each_taken : {X : Type 0} (P : X → Type 0) (xs : List X) (i j : ℕ) → i ≤ j → Each P (take j xs) → Each P (take i xs)
each_taken P xs zero j le h = tt
each_taken P [] (suc i) j le h = tt
each_taken P (x ∷ xs) (suc i) zero le h = absurd (omega (arith, le))
each_taken P (x ∷ xs) (suc i) (suc j) le h = (h.0, each_taken P xs i j (omega (arith, le)) h.1)

pub each_dropped : {X : Type 0} (P : X → Type 0) (xs : List X) (i j : ℕ) → i ≤ j → Each P (drop i xs) → Each P (drop j xs)
each_dropped P xs zero zero le h = h
each_dropped P [] i (suc j) le h = tt
each_dropped P (x ∷ xs) zero (suc j) le h = each_dropped P xs zero j (omega arith) h.1
each_dropped P xs (suc i) zero le h = absurd (omega (arith, le))
each_dropped P (x ∷ xs) (suc i) (suc j) le h = each_dropped P xs i j (omega (arith, le)) h

pub each_inserted : {X : Type 0} (P : X → Type 0) (xs : List X) (i : ℕ) (y : X) → Each P xs → P y → Each P (insert xs i y)
each_inserted P xs zero y h p = (p, h)
each_inserted P [] (suc i) y h p = (p, tt)
each_inserted P (x ∷ xs) (suc i) y h p = (h.0, each_inserted P xs i y h.1 p)

pub each_removed : {X : Type 0} (P : X → Type 0) (xs : List X) (i : ℕ) → Each P xs → Each P (remove xs i)
each_removed P [] zero h = tt
each_removed P [] (suc i) h = tt
each_removed P (x ∷ xs) zero h = h.1
each_removed P (x ∷ xs) (suc i) h = (h.0, each_removed P xs i h.1)

pub pairs_inserted : {X : Type 0} (R : X → X → Type 0) (xs : List X) (i : ℕ) (y : X) → Pairwise R xs → Each (λ x. R x y) (take i xs) → Each (R y) (drop i xs) → Pairwise R (insert xs i y)
pairs_inserted R xs zero y h before behind = (behind, h)
pairs_inserted R [] (suc i) y h before behind = (tt, tt)
pairs_inserted R (x ∷ xs) (suc i) y h before behind = (each_inserted (R x) xs i y h.0 before.0, pairs_inserted R xs i y h.1 before.1 behind)

pub pairs_removed : {X : Type 0} (R : X → X → Type 0) (xs : List X) (i : ℕ) → Pairwise R xs → Pairwise R (remove xs i)
pairs_removed R [] zero h = tt
pairs_removed R [] (suc i) h = tt
pairs_removed R (x ∷ xs) zero h = h.1
pairs_removed R (x ∷ xs) (suc i) h = (each_removed (R x) xs i h.0, pairs_removed R xs i h.1)

-- what comes before another passes a test that the other passes
pub partitioned : {X : Type 0} (R : X → X → Type 0) (test : X → Bool) → ((a b : X) → R a b → test b ≡ true → test a ≡ true) → (xs : List X) → Pairwise R xs → IsPartitionedBy test xs
partitioned R test down [] h i j d le lt passes = absurd (omega (arith, lt))
partitioned R test down (x ∷ xs) h zero zero d le lt passes = passes
partitioned R test down (x ∷ xs) h zero (suc j) d le lt passes = down x (get_or xs j d) (each_at (R x) xs j d h.0 (omega (arith, lt))) passes
partitioned R test down (x ∷ xs) h (suc i) zero d le lt passes = absurd (omega (arith, le))
partitioned R test down (x ∷ xs) h (suc i) (suc j) d le lt passes = partitioned R test down xs h.1 i j d (omega (arith, le)) (omega (arith, lt)) passes

pub is_lt : (a b : ℕ) → nat_lt a b ≡ true → a < b
is_lt a b h = grind (arith, nat_tests)

pub not_lt : (a b : ℕ) → nat_lt a b ≡ false → b ≤ a
not_lt a b h = grind (arith, nat_tests)

pub is_le : (a b : ℕ) → nat_le a b ≡ true → a ≤ b
is_le a b h = grind (arith, nat_tests)

pub not_le : (a b : ℕ) → nat_le a b ≡ false → b < a
not_le a b h = grind (arith, nat_tests)

-- what a search finds by a test that passes those in front: they pass it, and those behind fail it
pub parted : {X : Type 0} (R : X → X → Type 0) (test : X → Bool) → ((a b : X) → R a b → test b ≡ true → test a ≡ true) → (xs : List X) (i : ℕ) → Pairwise R xs → i ≤ length xs →
    (IsPartitionedBy test xs → IsPartitionPoint (λ x. test x ≡ true) (λ x. test x ≡ false) xs i) → Each (λ x. test x ≡ true) (take i xs) × Each (λ x. test x ≡ false) (drop i xs)
parted R test down xs i pairs le point =
    let sides = point (partitioned R test down xs pairs) in
    (before_place (λ x. test x ≡ true) xs i le sides.0, behind_place (λ x. test x ≡ false) xs i sides.1)

-- the same of a search by number
pub parted_by : {X : Type 0} (number : X → ℕ) (n : ℕ) (R : X → X → Type 0) → ((a b : X) → R a b → number a ≤ number b) → (xs : List X) (i : ℕ) → Pairwise R xs → i ≤ length xs →
    (IsPartitionedBy (λ x. nat_lt (number x) n) xs → IsPartitionPoint (λ x. nat_lt (number x) n ≡ true) (λ x. nat_lt (number x) n ≡ false) xs i) →
    Each (λ x. number x < n) (take i xs) × Each (λ x. n ≤ number x) (drop i xs)
parted_by number n R up xs i pairs le point =
    let sides = parted R (λ x. nat_lt (number x) n) (λ a b r passes. lower_too (number a) (number b) (up a b r) passes) xs i pairs le point in (
      each_weaker (λ x. nat_lt (number x) n ≡ true) (λ x. number x < n) (λ x passes. is_lt (number x) n passes) (take i xs) sides.0,
      each_weaker (λ x. nat_lt (number x) n ≡ false) (λ x. n ≤ number x) (λ x fails. not_lt (number x) n fails) (drop i xs) sides.1,
    )
  where
    lower_too : (a b : ℕ) → a ≤ b → nat_lt b n ≡ true → nat_lt a n ≡ true
    lower_too a b below passes = grind (arith, nat_tests)

-- ## Elements that are mapped

pub each_mapped : {X Y : Type 0} (P : Y → Type 0) (f : X → Y) (xs : List X) → Each P (map f xs) → Each (λ x. P (f x)) xs
each_mapped P f [] h = tt
each_mapped P f (x ∷ xs) h = (h.0, each_mapped P f xs h.1)

pub pairs_mapped : {X Y : Type 0} (R : Y → Y → Type 0) (f : X → Y) (xs : List X) → Pairwise R (map f xs) → Pairwise (λ a b. R (f a) (f b)) xs
pairs_mapped R f [] h = tt
pairs_mapped R f (x ∷ xs) h = (each_mapped (R (f x)) f xs h.0, pairs_mapped R f xs h.1)

pub taken_mapped : {X Y : Type 0} (P : Y → Type 0) (f : X → Y) (xs : List X) (n : ℕ) → Each (λ x. P (f x)) (take n xs) → Each P (take n (map f xs))
taken_mapped P f xs zero h = tt
taken_mapped P f [] (suc n) h = tt
taken_mapped P f (x ∷ xs) (suc n) h = (h.0, taken_mapped P f xs n h.1)

pub dropped_mapped : {X Y : Type 0} (P : Y → Type 0) (f : X → Y) (xs : List X) (n : ℕ) → Each (λ x. P (f x)) (drop n xs) → Each P (drop n (map f xs))
dropped_mapped P f [] zero h = tt
dropped_mapped P f [] (suc n) h = tt
dropped_mapped P f (x ∷ xs) zero h = (h.0, dropped_mapped P f xs zero h.1)
dropped_mapped P f (x ∷ xs) (suc n) h = dropped_mapped P f xs n h

-- ## Places

-- the place of the first that passes a test
abbrev pub first_place : {X : Type 0} → (X → Bool) → List X → Option ℕ
first_place test [] = None
first_place test (x ∷ xs) = if test x then Some 0 else option_map suc (first_place test xs)

pub position_is : {X : Type 0} (test : X → Bool) (xs : List X) → position test xs ≡ first_place test xs
position_is test [] = refl
position_is {X} test (x ∷ xs) = by_test (test x) refl (position_is test xs)
  where
    later : (k n : ℕ) → (less : Bool) → nat_lt k n ≡ less → ◌≡◌ {A = Option ℕ} (cond (nat_lt (1 + k) (suc n)) (Some (1 + k)) None) (option_map suc (cond less (Some k) None))
    later k n true e =
        let more : nat_lt (1 + k) (suc n) ≡ true = grind (arith, nat_tests) in
        let one : 1 + k ≡ suc k = omega arith in
        rw (more, one) refl
    later k n false e = let more : nat_lt (1 + k) (suc n) ≡ false = grind (arith, nat_tests) in rw more refl

    by_test : (b : Bool) → test x ≡ b → position test xs ≡ first_place test xs → position test (x ∷ xs) ≡ first_place test (x ∷ xs)
    by_test true e others = let some : nat_lt 0 (suc (length xs)) ≡ true = grind (arith, nat_tests) in rw (e, some) refl
    by_test false e others = rw e (later (position_or_len test xs) (length xs) (nat_lt (position_or_len test xs) (length xs)) refl ∙ ap (option_map suc) others)

pub any_place : {X : Type 0} (test : X → Bool) (xs : List X) → is_some (first_place test xs) ≡ list_any test xs
any_place test [] = refl
any_place test (x ∷ xs) = by_test (test x) (first_place test xs) (any_place test xs)
  where
    by_test : (b : Bool) (o : Option ℕ) → is_some o ≡ list_any test xs → is_some (if b then Some 0 else option_map suc o) ≡ (b || list_any test xs)
    by_test true o others = refl
    by_test false None others = others
    by_test false (Some k) others = others

pub list_any-map : {X Y : Type 0} (test : Y → Bool) (f : X → Y) (xs : List X) → list_any test (map f xs) ≡ list_any (λ x. test (f x)) xs
list_any-map test f [] = refl
list_any-map test f (x ∷ xs) = ap (λ rest. test (f x) || rest) (list_any-map test f xs)

-- what is left of a list, by the element at its front
pub next_is : {X : Type 0} (xs : List X) (i : ℕ) (x : X) → i < length xs → x ≡ get_or xs i x → drop i xs ≡ x ∷ drop (i + 1) xs
next_is xs i x lt is = drop-cons xs i x lt ∙ ap (λ y. y ∷ drop (suc i) xs) (sym is) ∙ ap (λ n. x ∷ drop n xs) (sym (add-one i))

pub done_is : {X : Type 0} (xs : List X) (i : ℕ) (x : X) → i < length xs → x ≡ get_or xs i x → take (i + 1) xs ≡ take i xs ++ x ∷ []
done_is xs i x lt is = ap (λ n. take n xs) (add-one i) ∙ take-suc xs i x lt ∙ ap (λ y. take i xs ++ y ∷ []) (sym is)

-- the element that was looked at last
pub one_done : {X Y : Type 0} (f : X → Y) (test : X → Bool) (xs : List X) (x : X) → map f (filter test (xs ++ x ∷ [])) ≡ map f (filter test xs) ++ (if test x then f x ∷ [] else [])
one_done f test [] x = by_test (test x)
  where
    by_test : (b : Bool) → map f (cond b (x ∷ []) []) ≡ (if b then f x ∷ [] else [])
    by_test true = refl
    by_test false = refl
one_done f test (y ∷ xs) x = by_test (test y) (one_done f test xs x)
  where
    by_test : (b : Bool) → map f (filter test (xs ++ x ∷ [])) ≡ map f (filter test xs) ++ (if test x then f x ∷ [] else []) →
        map f (cond b (y ∷ filter test (xs ++ x ∷ [])) (filter test (xs ++ x ∷ []))) ≡ map f (cond b (y ∷ filter test xs) (filter test xs)) ++ (if test x then f x ∷ [] else [])
    by_test true h = ap (λ rest. f y ∷ rest) h
    by_test false h = h

pub place_passes : {X : Type 0} (test : X → Bool) (xs : List X) (i : ℕ) → first_place test xs ≡ Some i → (i < length xs) × ((d : X) → test (get_or xs i d) ≡ true)
place_passes test [] i e = cc
place_passes {X} test (x ∷ xs) i e = by_test (test x) refl e (λ j found. place_passes test xs j found)
  where
    rest : (o : Option ℕ) → first_place test xs ≡ o → option_map suc o ≡ Some i → ((j : ℕ) → first_place test xs ≡ Some j → (j < length xs) × ((d : X) → test (get_or xs j d) ≡ true)) → (i < length (x ∷ xs)) × ((d : X) → test (get_or (x ∷ xs) i d) ≡ true)
    rest None is found others = cc
    rest (Some j) is found others =
        let at : suc j ≡ i = cc in
        let its = others j is in
        (omega (arith, its.0, at), λ d. ap (λ k. test (get_or (x ∷ xs) k d)) (sym at) ∙ its.1 d)

    by_test : (b : Bool) → test x ≡ b → (if b then Some 0 else option_map suc (first_place test xs)) ≡ Some i → ((j : ℕ) → first_place test xs ≡ Some j → (j < length xs) × ((d : X) → test (get_or xs j d) ≡ true)) → (i < length (x ∷ xs)) × ((d : X) → test (get_or (x ∷ xs) i d) ≡ true)
    by_test true is found others = let at : 0 ≡ i = cc in (omega (arith, at), λ d. ap (λ k. test (get_or (x ∷ xs) k d)) (sym at) ∙ is)
    by_test false is found others = rest (first_place test xs) refl found others
