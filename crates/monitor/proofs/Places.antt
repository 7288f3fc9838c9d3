-- Places in lists, and what stays where one leaves.
use Rattle.std.proofs.Common.{◌≡◌, ℕ, zero, suc, ◌+◌, ◌<◌, ◌≤◌, Bool, true, false, nat_lt, not, cond, Option, Some, None, List, [], ◌∷◌, map, length, remove, take, refl, sym, ap, ◌∙◌, arith}
use Rattle.std.specs.Prelude.{unwrap_or}
use Rattle.std.specs.List.{filter, position, position_or_len}
use Rattle.std.proofs.lemmas.Bool.Decides.{nat_tests}
use Rattle.seq_bus_core.proofs.Inserting.{found_at, found_nowhere}

-- where one leaves that does not pass, those that pass stay
pub removed_first : {X : Type 0} (test : X → Bool) (xs : List X) → position_or_len test xs < length xs → filter (λ x. not (test x)) (remove xs (position_or_len test xs)) ≡ filter (λ x. not (test x)) xs
removed_first test [] lt = absurd (omega (arith, lt))
removed_first {X} test (x ∷ xs) lt = by_test (test x) refl lt (removed_first test xs)
  where
    by_test : (b : Bool) → test x ≡ b → position_or_len test (x ∷ xs) < length (x ∷ xs) →
        (position_or_len test xs < length xs → filter (λ y. not (test y)) (remove xs (position_or_len test xs)) ≡ filter (λ y. not (test y)) xs) →
        filter (λ y. not (test y)) (remove (x ∷ xs) (position_or_len test (x ∷ xs))) ≡ filter (λ y. not (test y)) (x ∷ xs)
    by_test true is there others = rw is refl
    by_test false is there others =
        let next : 1 + position_or_len test xs ≡ suc (position_or_len test xs) = omega arith in
        let within : position_or_len test xs < length xs = (let far : 1 + position_or_len test xs < suc (length xs) = rw is at there in omega (arith, far)) in
        rw (is, next, is) (ap (λ ys. x ∷ ys) (others within))

pub none_passes : {X : Type 0} (test : X → Bool) (xs : List X) → length xs ≤ position_or_len test xs → filter (λ x. not (test x)) xs ≡ xs
none_passes test [] far = refl
none_passes {X} test (x ∷ xs) far = by_test (test x) refl far (none_passes test xs)
  where
    by_test : (b : Bool) → test x ≡ b → length (x ∷ xs) ≤ position_or_len test (x ∷ xs) → (length xs ≤ position_or_len test xs → filter (λ y. not (test y)) xs ≡ xs) →
        filter (λ y. not (test y)) (x ∷ xs) ≡ x ∷ xs
    by_test true is there others = let far_on : suc (length xs) ≤ 0 = rw is at there in absurd (omega (arith, far_on))
    by_test false is there others =
        let within : length xs ≤ position_or_len test xs = (let far_on : suc (length xs) ≤ 1 + position_or_len test xs = rw is at there in omega (arith, far_on)) in
        rw is (ap (λ ys. x ∷ ys) (others within))

pub place_within : {X : Type 0} (test : X → Bool) (xs : List X) → position_or_len test xs ≤ length xs
place_within test [] = omega arith
place_within {X} test (x ∷ xs) = by_test (test x) refl (place_within test xs)
  where
    by_test : (b : Bool) → test x ≡ b → position_or_len test xs ≤ length xs → position_or_len test (x ∷ xs) ≤ length (x ∷ xs)
    by_test true is others = rw is (omega arith)
    by_test false is others = rw is (omega (arith, others))

-- a place that was found, or the end
pub place_or_end : {X : Type 0} (test : X → Bool) (xs : List X) → unwrap_or (position test xs) (length xs) ≡ position_or_len test xs
place_or_end test xs = by_test (nat_lt (position_or_len test xs) (length xs)) refl
  where
    by_test : (b : Bool) → nat_lt (position_or_len test xs) (length xs) ≡ b → unwrap_or (position test xs) (length xs) ≡ position_or_len test xs
    by_test true is = rw is refl
    by_test false is = rw is (let far : length xs ≤ position_or_len test xs = grind (arith, nat_tests) in omega (arith, far, place_within test xs))

-- the elements of one that leaves
pub first_removed : {X : Type 0} (test : X → Bool) (xs : List X) (i : ℕ) → ◌≡◌ {A = Option ℕ} (position test xs) (Some i) → filter (λ x. not (test x)) (remove xs i) ≡ filter (λ x. not (test x)) xs
first_removed test xs i e = let found = found_at test xs i e in ap (λ n. filter (λ x. not (test x)) (remove xs n)) (sym found.0) ∙ removed_first test xs (omega (arith, found.0, found.1))

pub all_stay : {X : Type 0} (test : X → Bool) (xs : List X) → ◌≡◌ {A = Option ℕ} (position test xs) None → filter (λ x. not (test x)) xs ≡ xs
all_stay test xs e = none_passes test xs (found_nowhere test xs e)

-- no more pass than were looked at
pub few_done : {X Y : Type 0} (f : X → Y) (test : X → Bool) (xs : List X) (i : ℕ) → length (map f (filter test (take i xs))) ≤ i
few_done f test xs zero = omega arith
few_done f test [] (suc i) = omega arith
few_done f test (x ∷ xs) (suc i) = by_test (test x) (few_done f test xs i)
  where
    by_test : (b : Bool) → length (map f (filter test (take i xs))) ≤ i → length (map f (cond b (x ∷ filter test (take i xs)) (filter test (take i xs)))) ≤ suc i
    by_test true h = omega (arith, h)
    by_test false h = omega (arith, h)
