-- The place of a connection in a table.
use Rattle.std.proofs.Common.{◌≡◌, ℕ, zero, suc, ◌<◌, ◌≤◌, ◌==◌, Bool, true, false, cond, Option, Some, None, option_map, List, [], ◌∷◌, map, filter, length, take, drop, get_or, refl, ap, ◌∙◌, arith, if◌then◌else◌}
use Rattle.std.specs.List.{AllByRecursion as Each, find}
use Rattle.std.proofs.lemmas.Bool.Decides.{nat_tests}
use Rattle.match_index.proofs.Lists.{each_weaker, first_place}
use Rattle.registry_core.specs.declared.connection_entry.ConnectionEntry.{ConnectionEntry}
use Rattle.registry_core.specs.Listening.{Rising}

pub filter_alike : {X : Type 0} (p q : X → Bool) (xs : List X) → ((x : X) → p x ≡ q x) → filter p xs ≡ filter q xs
filter_alike p q [] same = refl
filter_alike p q (x ∷ xs) same = ap (λ b. cond b (x ∷ filter p xs) (filter p xs)) (same x) ∙ ap (λ rest. cond (q x) (x ∷ rest) rest) (filter_alike p q xs same)

pub find-map : {X Y : Type 0} (test : Y → Bool) (f : X → Y) (xs : List X) → find test (map f xs) ≡ option_map f (find (λ x. test (f x)) xs)
find-map test f [] = refl
find-map test f (x ∷ xs) = by_test (test (f x)) (find-map test f xs)
  where
    by_test : (b : Bool) → find test (map f xs) ≡ option_map f (find (λ y. test (f y)) xs) →
        cond b (Some (f x)) (find test (map f xs)) ≡ option_map f (cond b (Some x) (find (λ y. test (f y)) xs))
    by_test true e = refl
    by_test false e = e

-- ## Places

pub found_at : (number : ℕ) (ms : List ConnectionEntry) (d : ConnectionEntry) (i : ℕ) → first_place (λ m. m.conn.number == number) ms ≡ Some i →
    find (λ m. m.conn.number == number) ms ≡ Some (get_or ms i d)
found_at number [] d i e = cc
found_at number (m ∷ ms) d i e = by_test (λ j found. found_at number ms d j found) (m.conn.number == number) refl e
  where
    rest : ((j : ℕ) → first_place (λ n. n.conn.number == number) ms ≡ Some j → find (λ n. n.conn.number == number) ms ≡ Some (get_or ms j d)) →
        (o : Option ℕ) → first_place (λ n. n.conn.number == number) ms ≡ o → option_map suc o ≡ Some i → find (λ n. n.conn.number == number) ms ≡ Some (get_or (m ∷ ms) i d)
    rest others None is found = cc
    rest others (Some j) is found = let at : suc j ≡ i = cc in rw (← at) (others j is)

    by_test : ((j : ℕ) → first_place (λ n. n.conn.number == number) ms ≡ Some j → find (λ n. n.conn.number == number) ms ≡ Some (get_or ms j d)) →
        (b : Bool) → (m.conn.number == number) ≡ b → (if b then Some 0 else option_map suc (first_place (λ n. n.conn.number == number) ms)) ≡ Some i →
        find (λ n. n.conn.number == number) (m ∷ ms) ≡ Some (get_or (m ∷ ms) i d)
    by_test others true is found = let at : 0 ≡ i = cc in rw (is, ← at) refl
    by_test others false is found = rw is (rest others (first_place (λ n. n.conn.number == number) ms) refl found)

pub found_nowhere : (number : ℕ) (ms : List ConnectionEntry) → ◌≡◌ {A = Option ℕ} (first_place (λ m. m.conn.number == number) ms) None →
    ◌≡◌ {A = Option ConnectionEntry} (find (λ m. m.conn.number == number) ms) None
found_nowhere number [] e = refl
found_nowhere number (m ∷ ms) e = by_test (λ none. found_nowhere number ms none) (m.conn.number == number) refl e
  where
    some_is_not_none : {j : ℕ} → ◌≡◌ {A = Option ℕ} (Some j) None → ⊥
    some_is_not_none is = cc

    rest : (o : Option ℕ) → ◌≡◌ {A = Option ℕ} (option_map suc o) None → ◌≡◌ {A = Option ℕ} o None
    rest None is = refl
    rest (Some j) is = absurd (some_is_not_none is)

    by_test : (◌≡◌ {A = Option ℕ} (first_place (λ n. n.conn.number == number) ms) None → ◌≡◌ {A = Option ConnectionEntry} (find (λ n. n.conn.number == number) ms) None) →
        (b : Bool) → (m.conn.number == number) ≡ b → ◌≡◌ {A = Option ℕ} (if b then Some 0 else option_map suc (first_place (λ n. n.conn.number == number) ms)) None →
        ◌≡◌ {A = Option ConnectionEntry} (find (λ n. n.conn.number == number) (m ∷ ms)) None
    by_test others true is found = absurd (some_is_not_none found)
    by_test others false is found = rw is (others (rest (first_place (λ n. n.conn.number == number) ms) found))

-- the place where a number stands
pub first_at : (number place : ℕ) (d : ConnectionEntry) (ms : List ConnectionEntry) → Each (λ m. m.conn.number < number) (take place ms) → place < length ms → (get_or ms place d).conn.number ≡ number → first_place (λ m. m.conn.number == number) ms ≡ Some place
first_at number place d [] before lt same = absurd (omega (arith, lt))
first_at number zero d (m ∷ ms) before lt same = let is : (m.conn.number == number) ≡ true = grind (arith, nat_tests) in rw is refl
first_at number (suc place) d (m ∷ ms) before lt same =
    let other : (m.conn.number == number) ≡ false = let low : m.conn.number < number = before.0 in grind (arith, nat_tests) in
    rw other (ap (option_map suc) (first_at number place d ms before.1 (omega (arith, lt)) same))

-- a number that does not stand at its place stands nowhere
pub none_at : (number place : ℕ) (d : ConnectionEntry) (ms : List ConnectionEntry) → Rising ms → Each (λ m. m.conn.number < number) (take place ms) → Each (λ m. number ≤ m.conn.number) (drop place ms) → (place < length ms → (get_or ms place d).conn.number ≡ number → ⊥) →
    ◌≡◌ {A = Option ℕ} (first_place (λ m. m.conn.number == number) ms) None
none_at number place d [] rising before behind differs = refl
none_at number zero d (m ∷ ms) rising before behind differs =
    let least : number ≤ m.conn.number = behind.0 in
    let up : number < m.conn.number = omega (arith, least, differs (omega arith)) in
    let other : (m.conn.number == number) ≡ false = grind (arith, nat_tests) in
    rw other (ap (option_map suc) (higher ms (each_weaker (λ b. m.conn.number < b.conn.number) (λ b. number < b.conn.number) (λ b more. omega (arith, up, more)) ms rising.0)))
  where
    higher : (xs : List ConnectionEntry) → Each (λ b. number < b.conn.number) xs → ◌≡◌ {A = Option ℕ} (first_place (λ b. b.conn.number == number) xs) None
    higher [] h = refl
    higher (x ∷ xs) h = let other : (x.conn.number == number) ≡ false = let more : number < x.conn.number = h.0 in grind (arith, nat_tests) in rw other (ap (option_map suc) (higher xs h.1))
none_at number (suc place) d (m ∷ ms) rising before behind differs =
    let other : (m.conn.number == number) ≡ false = let low : m.conn.number < number = before.0 in grind (arith, nat_tests) in
    rw other (ap (option_map suc) (none_at number place d ms rising.1 before.1 behind (λ lt same. differs (omega (arith, lt)) same)))
