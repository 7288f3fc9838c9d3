-- Lists of the tables, and what they stand for.
use Rattle.std.proofs.Common.{zero, ◌<◌, ◌≤◌, map, flat_map, get_or, sym, add-one, append-nil, append_assoc, Some, None, ◌++◌, filter, is_some, if◌then◌else◌, ◌≡◌, ℕ, suc, ◌+◌, Bool, true, false, cond, Some, List, [], ◌∷◌, length, take, take_while, insert, refl, ap, ◌∙◌, arith}
use Rattle.std.specs.List.{find, prefix_len, AllByRecursion}
use Rattle.names.specs.Texts.{Text, text_lt}
use Rattle.seq_bus_core.specs.Histories.{inserted}

one_more : (n : Text) (names : List Text) (k : ℕ) → length (take (1 + k) (n ∷ names)) ≡ suc (length (take k names))
one_more n names k = let more : 1 + k ≡ suc k = omega arith in ap (λ j. length (take j (n ∷ names))) more

-- the name goes behind those that come before it
pub inserted_is : (name : Text) (names : List Text) → insert names (length (take_while (λ before. text_lt before name) names)) name ≡ inserted name names
inserted_is name [] = refl
inserted_is name (n ∷ names) = by_test (text_lt n name) refl (inserted_is name names)
  where
    by_test : (b : Bool) → text_lt n name ≡ b → insert names (length (take_while (λ before. text_lt before name) names)) name ≡ inserted name names →
        insert (n ∷ names) (length (take_while (λ before. text_lt before name) (n ∷ names))) name ≡ inserted name (n ∷ names)
    by_test true e others = rw e (ap (λ place. insert (n ∷ names) place name) (one_more n names (prefix_len (λ before. text_lt before name) names)) ∙ ap (λ rest. n ∷ rest) others)
    by_test false e others = rw e refl

pub none_left : {X : Type 0} (xs : List X) → length xs ≡ 0 → xs ≡ []
none_left [] h = refl
none_left (x ∷ xs) h = absurd (omega (arith, h))

pub filter_all : {X : Type 0} (test : X → Bool) (xs : List X) → AllByRecursion (λ x. test x ≡ true) xs → filter test xs ≡ xs
filter_all test [] h = refl
filter_all test (x ∷ xs) h = rw h.0 (ap (λ rest. x ∷ rest) (filter_all test xs h.1))

-- what is found in a list with one more at its end
pub find_push : {X : Type 0} (test : X → Bool) (xs : List X) (x : X) → find test (xs ++ x ∷ []) ≡ (if is_some (find test xs) then find test xs else if test x then Some x else None)
find_push test [] x = by_test (test x)
  where
    by_test : (b : Bool) → cond b (Some x) None ≡ (if b then Some x else None)
    by_test true = refl
    by_test false = refl
find_push test (y ∷ xs) x = by_test (test y) (find_push test xs x)
  where
    by_test : (b : Bool) → find test (xs ++ x ∷ []) ≡ (if is_some (find test xs) then find test xs else if test x then Some x else None) →
        cond b (Some y) (find test (xs ++ x ∷ [])) ≡ (if is_some (cond b (Some y) (find test xs)) then cond b (Some y) (find test xs) else if test x then Some x else None)
    by_test true h = refl
    by_test false h = h

-- one more element of what a list stands for
pub take_next : {X Y : Type 0} (f : X → Y) (xs : List X) (i : ℕ) (d : X) → i < length xs → take (i + 1) (map f xs) ≡ take i (map f xs) ++ f (get_or xs i d) ∷ []
take_next {X} {Y} f xs i d lt = ap (λ k. take k (map f xs)) (add-one i) ∙ next xs i lt
  where
    next : (ys : List X) (k : ℕ) → k < length ys → take (suc k) (map f ys) ≡ take k (map f ys) ++ f (get_or ys k d) ∷ []
    next [] k h = absurd (omega (arith, h))
    next (y ∷ ys) zero h = refl
    next (y ∷ ys) (suc k) h = ap (λ rest. f y ∷ rest) (next ys k (omega (arith, h)))

pub flat_push : {X Y : Type 0} (f : X → List Y) (xs : List X) (x : X) → flat_map f (xs ++ x ∷ []) ≡ flat_map f xs ++ f x
flat_push f [] x = append-nil (f x)
flat_push f (y ∷ xs) x = ap (λ rest. f y ++ rest) (flat_push f xs x) ∙ sym (append_assoc (f y) (flat_map f xs) (f x))

pub map_get : {X Y : Type 0} (f : X → Y) (xs : List X) (i : ℕ) (d : X) → get_or (map f xs) i (f d) ≡ f (get_or xs i d)
map_get f [] i d = refl
map_get f (x ∷ xs) zero d = refl
map_get f (x ∷ xs) (suc i) d = map_get f xs i d

pub take_whole : {X : Type 0} (xs : List X) (i : ℕ) → length xs ≤ i → take i xs ≡ xs
take_whole [] zero le = refl
take_whole [] (suc i) le = refl
take_whole (x ∷ xs) zero le = absurd (omega (arith, le))
take_whole (x ∷ xs) (suc i) le = ap (λ rest. x ∷ rest) (take_whole xs i (omega (arith, le)))
