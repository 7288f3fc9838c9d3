-- Places by rising key.
use Rattle.std.proofs.Common.{◌≡◌, ℕ, zero, suc, ◌+◌, ◌<◌, ◌≤◌, ◌==◌, nat_le, Bool, true, false, cond, List, [], ◌∷◌, ◌++◌, map, filter, length, take, drop, insert, remove, get_or, set, refl, sym, ap, ◌∙◌, subst, arith}
use Rattle.std.specs.List.{AllByRecursion as Each}
use Rattle.std.proofs.lemmas.Bool.{eq-eqb, ne_eqb, eqb-true}
use Rattle.std.proofs.lemmas.Bool.Decides.{nat_tests}
use Rattle.match_index.proofs.Lists.{each_weaker, each_taken, each_dropped, pairs_inserted, pairs_removed}
use Rattle.match_index.specs.PlaceIndexes.{places_of, places_in, ByKey}
use Rattle.match_index.specs.declared.place_index.KeyedPlace.{KeyedPlace}

-- ## The searches

pub not_higher_too : (c : ℕ) (a b : KeyedPlace) → a.key ≤ b.key → nat_le b.key c ≡ true → nat_le a.key c ≡ true
not_higher_too c a b le passes = grind (arith, nat_tests)

-- ## The places of a key

abbrev pub own : ℕ → List KeyedPlace → List KeyedPlace
own c places = filter (λ p. p.key == c) places

own_first : (c : ℕ) (x : KeyedPlace) (xs : List KeyedPlace) → x.key ≡ c → own c (x ∷ xs) ≡ x ∷ own c xs
own_first c x xs same = rw (eq-eqb x.key c same) refl

other_first : (c : ℕ) (x : KeyedPlace) (xs : List KeyedPlace) → (x.key ≡ c → ⊥) → own c (x ∷ xs) ≡ own c xs
other_first c x xs differs = rw (ne_eqb x.key c differs) refl

none_above : (c : ℕ) (xs : List KeyedPlace) → Each (λ p. c < p.key) xs → own c xs ≡ []
none_above c [] h = refl
none_above c (x ∷ xs) h = other_first c x xs (λ same. omega (arith, same, h.0)) ∙ none_above c xs h.1

-- places that begin with those of a key
own_prefix : (c n : ℕ) (xs : List KeyedPlace) → Each (λ p. c ≤ p.key) xs → Each (λ p. p.key ≤ c) (take n xs) → Each (λ p. c < p.key) (drop n xs) → take n xs ≡ own c xs
own_prefix c zero xs a b d = sym (none_above c xs d)
own_prefix c (suc n) [] a b d = refl
own_prefix c (suc n) (x ∷ xs) a b d =
    let same : x.key ≡ c = omega (arith, a.0, b.0) in
    ap (λ rest. x ∷ rest) (own_prefix c n xs a.1 b.1 d) ∙ sym (own_first c x xs same)

-- where the places of a key start and end
pub record IsOwnPart (c : ℕ) (xs : List KeyedPlace) (low high : ℕ) : Type 0 where
  pub low_bound : low ≤ length xs
  pub high_bound : high ≤ length xs
  pub below : Each (λ p. p.key < c) (take low xs)
  pub not_below : Each (λ p. c ≤ p.key) (drop low xs)
  pub not_above : Each (λ p. p.key ≤ c) (take high xs)
  pub above : Each (λ p. c < p.key) (drop high xs)

tail_part : (c : ℕ) (x : KeyedPlace) (xs : List KeyedPlace) (low high : ℕ) → IsOwnPart c (x ∷ xs) (suc low) (suc high) → IsOwnPart c xs low high
tail_part c x xs low high h = record {
  low_bound = omega (arith, h.low_bound);
  high_bound = omega (arith, h.high_bound);
  below = h.below.1;
  not_below = h.not_below;
  not_above = h.not_above.1;
  above = h.above;
}

front_part : (c : ℕ) (x : KeyedPlace) (xs : List KeyedPlace) (high : ℕ) → IsOwnPart c (x ∷ xs) 0 (suc high) → IsOwnPart c xs 0 high
front_part c x xs high h = record {
  low_bound = omega arith;
  high_bound = omega (arith, h.high_bound);
  below = tt;
  not_below = h.not_below.1;
  not_above = h.not_above.1;
  above = h.above;
}

front_own : (c : ℕ) (x : KeyedPlace) (xs : List KeyedPlace) (high : ℕ) → IsOwnPart c (x ∷ xs) 0 (suc high) → x.key ≡ c
front_own c x xs high h = omega (arith, h.not_below.0, h.not_above.0)

front_other : (c : ℕ) (x : KeyedPlace) (xs : List KeyedPlace) (low high : ℕ) → IsOwnPart c (x ∷ xs) (suc low) high → x.key ≡ c → ⊥
front_other c x xs low high h same = omega (arith, same, h.below.0)

crossed : (c : ℕ) (x : KeyedPlace) (xs : List KeyedPlace) (low : ℕ) → IsOwnPart c (x ∷ xs) (suc low) 0 → ⊥
crossed c x xs low h = let down : x.key < c = h.below.0 in let up : c < x.key = h.above.0 in omega (arith, down, up)

pub in_order : (c : ℕ) (xs : List KeyedPlace) (low high : ℕ) → IsOwnPart c xs low high → low ≤ high
in_order c xs zero high h = omega arith
in_order c [] (suc low) high h = absurd (omega (arith, h.low_bound))
in_order c (x ∷ xs) (suc low) zero h = absurd (crossed c x xs low h)
in_order c (x ∷ xs) (suc low) (suc high) h = let rest : low ≤ high = in_order c xs low high (tail_part c x xs low high h) in omega (arith, rest)

pub own_part : (c n : ℕ) (xs : List KeyedPlace) (low high : ℕ) → IsOwnPart c xs low high → high ≡ low + n → take n (drop low xs) ≡ own c xs
own_part c n xs zero high h is =
    let same : high ≡ n = omega (arith, is) in
    own_prefix c n xs h.not_below (subst (λ k. Each (λ p. p.key ≤ c) (take k xs)) same h.not_above) (subst (λ k. Each (λ p. c < p.key) (drop k xs)) same h.above)
own_part c n [] (suc low) high h is = absurd (omega (arith, h.low_bound))
own_part c n (x ∷ xs) (suc low) zero h is = absurd (crossed c x xs low h)
own_part c n (x ∷ xs) (suc low) (suc high) h is = own_part c n xs low high (tail_part c x xs low high h) (omega (arith, is)) ∙ sym (other_first c x xs (front_other c x xs low (suc high) h))

pub own_length : (c : ℕ) (xs : List KeyedPlace) (low high : ℕ) → IsOwnPart c xs low high → high ≡ low + length (own c xs)
own_length c [] low high h = omega (arith, h.low_bound, h.high_bound)
own_length c (x ∷ xs) zero zero h = let none : length (own c (x ∷ xs)) ≡ 0 = ap length (none_above c (x ∷ xs) h.above) in omega (arith, none)
own_length c (x ∷ xs) zero (suc high) h =
    let rest : high ≡ 0 + length (own c xs) = own_length c xs 0 high (front_part c x xs high h) in
    let more : length (own c (x ∷ xs)) ≡ suc (length (own c xs)) = ap length (own_first c x xs (front_own c x xs high h)) in
    omega (arith, rest, more)
own_length c (x ∷ xs) (suc low) zero h = absurd (crossed c x xs low h)
own_length c (x ∷ xs) (suc low) (suc high) h =
    let rest : high ≡ low + length (own c xs) = own_length c xs low high (tail_part c x xs low high h) in
    let same : length (own c (x ∷ xs)) ≡ length (own c xs) = ap length (other_first c x xs (front_other c x xs low (suc high) h)) in
    omega (arith, rest, same)

-- where the places of a key end
record IsOwnEnd (c : ℕ) (xs : List KeyedPlace) (high : ℕ) : Type 0 where
  bound : high ≤ length xs
  not_above : Each (λ p. p.key ≤ c) (take high xs)
  above : Each (λ p. c < p.key) (drop high xs)

own_end : (c : ℕ) (xs : List KeyedPlace) → ByKey xs → Each (λ p. c ≤ p.key) xs → (high : ℕ) × IsOwnEnd c xs high
own_end c [] sorted h = (0, record { bound = omega arith; not_above = tt; above = tt })
own_end c (x ∷ xs) sorted h = by_test (x.key == c) refl (own_end c xs sorted.1 h.1)
  where
    by_test : (b : Bool) → (x.key == c) ≡ b → (high : ℕ) × IsOwnEnd c xs high → (high : ℕ) × IsOwnEnd c (x ∷ xs) high
    by_test true same rest =
        let end : IsOwnEnd c xs rest.0 = rest.1 in
        (suc rest.0, record { bound = omega (arith, end.bound); not_above = (omega (arith, eqb-true x.key c same), end.not_above); above = end.above })
    by_test false other rest =
        let least : c ≤ x.key = h.0 in
        let up : c < x.key = grind (arith, nat_tests) in
        (0, record { bound = omega arith; not_above = tt; above = (up, each_weaker (λ p. x.key ≤ p.key) (λ p. c < p.key) (λ p more. omega (arith, up, more)) xs sorted.0) })

pub own_from : (c : ℕ) (xs : List KeyedPlace) (low : ℕ) → ByKey xs → low ≤ length xs → Each (λ p. p.key < c) (take low xs) → Each (λ p. c ≤ p.key) (drop low xs) → (high : ℕ) × IsOwnPart c xs low high
own_from c xs zero sorted bound below not_below =
    let found = own_end c xs sorted not_below in
    let end : IsOwnEnd c xs found.0 = found.1 in
    (found.0, record { low_bound = bound; high_bound = end.bound; below = below; not_below = not_below; not_above = end.not_above; above = end.above })
own_from c [] (suc low) sorted bound below not_below = absurd (omega (arith, bound))
own_from c (x ∷ xs) (suc low) sorted bound below not_below =
    let rest = own_from c xs low sorted.1 (omega (arith, bound)) below.1 not_below in
    let part : IsOwnPart c xs low rest.0 = rest.1 in (
      suc rest.0,
      record {
        low_bound = bound;
        high_bound = omega (arith, part.high_bound);
        below = below;
        not_below = not_below;
        not_above = (omega (arith, below.0), part.not_above);
        above = part.above;
      },
    )

-- ## Edits

-- a place behind the others of its key
pub added_own : (c i : ℕ) (xs : List KeyedPlace) (y : KeyedPlace) → y.key ≡ c → Each (λ p. c < p.key) (drop i xs) → own c (insert xs i y) ≡ own c xs ++ y ∷ []
added_own c zero xs y same above = own_first c y xs same ∙ ap (λ rest. y ∷ rest) (none_above c xs above) ∙ sym (ap (λ rest. rest ++ y ∷ []) (none_above c xs above))
added_own c (suc i) [] y same above = own_first c y [] same
added_own c (suc i) (x ∷ xs) y same above = by_test (x.key == c) (added_own c i xs y same above)
  where
    by_test : (b : Bool) → own c (insert xs i y) ≡ own c xs ++ y ∷ [] →
        (cond b (x ∷ own c (insert xs i y)) (own c (insert xs i y))) ≡ (cond b (x ∷ own c xs) (own c xs)) ++ y ∷ []
    by_test true h = ap (λ rest. x ∷ rest) h
    by_test false h = h

pub added_other : (c i : ℕ) (xs : List KeyedPlace) (y : KeyedPlace) → (y.key ≡ c → ⊥) → own c (insert xs i y) ≡ own c xs
added_other c zero xs y differs = other_first c y xs differs
added_other c (suc i) [] y differs = other_first c y [] differs
added_other c (suc i) (x ∷ xs) y differs = by_test (x.key == c) (added_other c i xs y differs)
  where
    by_test : (b : Bool) → own c (insert xs i y) ≡ own c xs → (cond b (x ∷ own c (insert xs i y)) (own c (insert xs i y))) ≡ (cond b (x ∷ own c xs) (own c xs))
    by_test true h = ap (λ rest. x ∷ rest) h
    by_test false h = h

-- a place at a number among those of its key
pub inserted_own : (c n i : ℕ) (xs : List KeyedPlace) (y : KeyedPlace) (low high : ℕ) → IsOwnPart c xs low high → y.key ≡ c → n ≤ length (own c xs) → i ≡ low + n → own c (insert xs i y) ≡ insert (own c xs) n y
inserted_own c zero zero xs y low high h same le is = own_first c y xs same
inserted_own c zero (suc i) [] y low high h same le is = own_first c y [] same
inserted_own c (suc n) i [] y low high h same le is = absurd (omega (arith, le))
inserted_own c (suc n) zero (x ∷ xs) y low high h same le is = absurd (omega (arith, is))
inserted_own c n (suc i) (x ∷ xs) y zero zero h same le is = let none : length (own c (x ∷ xs)) ≡ 0 = ap length (none_above c (x ∷ xs) h.above) in absurd (omega (arith, none, le, is))
inserted_own c zero (suc i) (x ∷ xs) y zero (suc high) h same le is = absurd (omega (arith, is))
inserted_own c (suc n) (suc i) (x ∷ xs) y zero (suc high) h same le is =
    let its = front_own c x xs high h in
    let less : suc n ≤ suc (length (own c xs)) = subst (λ k. suc n ≤ k) (ap length (own_first c x xs its)) le in
    let rest : own c (insert xs i y) ≡ insert (own c xs) n y = inserted_own c n i xs y 0 high (front_part c x xs high h) same (omega (arith, less)) (omega (arith, is)) in
    own_first c x (insert xs i y) its ∙ ap (λ more. x ∷ more) rest ∙ sym (ap (λ ys. insert ys (suc n) y) (own_first c x xs its))
inserted_own c n (suc i) (x ∷ xs) y (suc low) zero h same le is = absurd (crossed c x xs low h)
inserted_own c n (suc i) (x ∷ xs) y (suc low) (suc high) h same le is =
    let differs = front_other c x xs low (suc high) h in
    let its : own c (x ∷ xs) ≡ own c xs = other_first c x xs differs in
    other_first c x (insert xs i y) differs ∙ inserted_own c n i xs y low high (tail_part c x xs low high h) same (subst (λ k. n ≤ k) (ap length its) le) (omega (arith, is)) ∙ sym (ap (λ ys. insert ys n y) its)

pub taken_own : (c n i : ℕ) (xs : List KeyedPlace) (low high : ℕ) → IsOwnPart c xs low high → n < length (own c xs) → i ≡ low + n → own c (remove xs i) ≡ remove (own c xs) n
taken_own c n i [] low high h lt is = absurd (omega (arith, lt))
taken_own c n i (x ∷ xs) zero zero h lt is = let none : length (own c (x ∷ xs)) ≡ 0 = ap length (none_above c (x ∷ xs) h.above) in absurd (omega (arith, none, lt))
taken_own c zero zero (x ∷ xs) zero (suc high) h lt is = sym (ap (λ ys. remove ys 0) (own_first c x xs (front_own c x xs high h)))
taken_own c zero (suc i) (x ∷ xs) zero (suc high) h lt is = absurd (omega (arith, is))
taken_own c (suc n) zero (x ∷ xs) zero (suc high) h lt is = absurd (omega (arith, is))
taken_own c (suc n) (suc i) (x ∷ xs) zero (suc high) h lt is =
    let same = front_own c x xs high h in
    let less : suc n < suc (length (own c xs)) = subst (λ k. suc n < k) (ap length (own_first c x xs same)) lt in
    let rest : own c (remove xs i) ≡ remove (own c xs) n = taken_own c n i xs 0 high (front_part c x xs high h) (omega (arith, less)) (omega (arith, is)) in
    own_first c x (remove xs i) same ∙ ap (λ more. x ∷ more) rest ∙ sym (ap (λ ys. remove ys (suc n)) (own_first c x xs same))
taken_own c n i (x ∷ xs) (suc low) zero h lt is = absurd (crossed c x xs low h)
taken_own c n zero (x ∷ xs) (suc low) (suc high) h lt is = absurd (omega (arith, is))
taken_own c n (suc i) (x ∷ xs) (suc low) (suc high) h lt is =
    let differs = front_other c x xs low (suc high) h in
    let same : own c (x ∷ xs) ≡ own c xs = other_first c x xs differs in
    other_first c x (remove xs i) differs ∙ taken_own c n i xs low high (tail_part c x xs low high h) (subst (λ k. n < k) (ap length same) lt) (omega (arith, is)) ∙ sym (ap (λ ys. remove ys n) same)

pub taken_other : (k c n i : ℕ) (xs : List KeyedPlace) (low high : ℕ) → IsOwnPart c xs low high → n < length (own c xs) → i ≡ low + n → (c == k) ≡ false → own k (remove xs i) ≡ own k xs
taken_other k c n i [] low high h lt is other = absurd (omega (arith, lt))
taken_other k c n i (x ∷ xs) zero zero h lt is other = let none : length (own c (x ∷ xs)) ≡ 0 = ap length (none_above c (x ∷ xs) h.above) in absurd (omega (arith, none, lt))
taken_other k c zero zero (x ∷ xs) zero (suc high) h lt is other =
    let differs : (x.key == k) ≡ false = ap (λ m. m == k) (front_own c x xs high h) ∙ other in
    rw differs refl
taken_other k c zero (suc i) (x ∷ xs) zero (suc high) h lt is other = absurd (omega (arith, is))
taken_other k c (suc n) zero (x ∷ xs) zero (suc high) h lt is other = absurd (omega (arith, is))
taken_other k c (suc n) (suc i) (x ∷ xs) zero (suc high) h lt is other =
    let less : suc n < suc (length (own c xs)) = subst (λ m. suc n < m) (ap length (own_first c x xs (front_own c x xs high h))) lt in
    let differs : (x.key == k) ≡ false = ap (λ m. m == k) (front_own c x xs high h) ∙ other in
    rw differs (taken_other k c n i xs 0 high (front_part c x xs high h) (omega (arith, less)) (omega (arith, is)) other)
taken_other k c n i (x ∷ xs) (suc low) zero h lt is other = absurd (crossed c x xs low h)
taken_other k c n zero (x ∷ xs) (suc low) (suc high) h lt is other = absurd (omega (arith, is))
taken_other k c n (suc i) (x ∷ xs) (suc low) (suc high) h lt is other =
    let same : own c (x ∷ xs) ≡ own c xs = other_first c x xs (front_other c x xs low (suc high) h) in
    by_test (x.key == k) (taken_other k c n i xs low high (tail_part c x xs low high h) (subst (λ m. n < m) (ap length same) lt) (omega (arith, is)) other)
  where
    by_test : (b : Bool) → own k (remove xs i) ≡ own k xs → (cond b (x ∷ own k (remove xs i)) (own k (remove xs i))) ≡ (cond b (x ∷ own k xs) (own k xs))
    by_test true h = ap (λ rest. x ∷ rest) h
    by_test false h = h

pub places_inserted : (n : ℕ) (xs : List KeyedPlace) (y : KeyedPlace) → places_in (insert xs n y) ≡ insert (places_in xs) n y.place
places_inserted zero xs y = refl
places_inserted (suc n) [] y = refl
places_inserted (suc n) (x ∷ xs) y = ap (λ rest. x.place ∷ rest) (places_inserted n xs y)

pub places_removed : (n : ℕ) (xs : List KeyedPlace) → places_in (remove xs n) ≡ remove (places_in xs) n
places_removed zero [] = refl
places_removed (suc n) [] = refl
places_removed zero (x ∷ xs) = refl
places_removed (suc n) (x ∷ xs) = ap (λ rest. x.place ∷ rest) (places_removed n xs)

-- ## The order

pub sorted_added : (xs : List KeyedPlace) (i : ℕ) (y : KeyedPlace) → ByKey xs → Each (λ p. p.key ≤ y.key) (take i xs) → Each (λ p. y.key < p.key) (drop i xs) → ByKey (insert xs i y)
sorted_added xs i y h before behind =
    pairs_inserted (λ a b. a.key ≤ b.key) xs i y h before (each_weaker (λ p. y.key < p.key) (λ p. y.key ≤ p.key) (λ p up. omega (arith, up)) (drop i xs) behind)

pub sorted_inserted : (c n : ℕ) (xs : List KeyedPlace) (y : KeyedPlace) (low high : ℕ) → IsOwnPart c xs low high → y.key ≡ c → n ≤ length (own c xs) → ByKey xs → ByKey (insert xs (low + n) y)
sorted_inserted c n xs y low high part same le h =
    let within : low + n ≤ high = omega (arith, le, own_length c xs low high part) in
    pairs_inserted (λ a b. a.key ≤ b.key) xs (low + n) y h (subst (λ k. Each (λ p. p.key ≤ k) (take (low + n) xs)) (sym same) (each_taken (λ p. p.key ≤ c) xs (low + n) high within part.not_above))
    (subst (λ k. Each (λ p. k ≤ p.key) (drop (low + n) xs)) (sym same) (each_dropped (λ p. c ≤ p.key) xs low (low + n) (omega arith) part.not_below))

pub sorted_taken : (xs : List KeyedPlace) (i : ℕ) → ByKey xs → ByKey (remove xs i)
sorted_taken xs i h = pairs_removed (λ a b. a.key ≤ b.key) xs i h

-- ## Other places

abbrev pub moved : (ℕ → ℕ) → KeyedPlace → KeyedPlace
moved f p = record p { place = f p.place }

each_moved : (f : ℕ → ℕ) (c : ℕ) (xs : List KeyedPlace) → Each (λ b. c ≤ b.key) xs → Each (λ b. c ≤ b.key) (map (moved f) xs)
each_moved f c [] h = tt
each_moved f c (x ∷ xs) h = (h.0, each_moved f c xs h.1)

pub sorted_moved : (f : ℕ → ℕ) (xs : List KeyedPlace) → ByKey xs → ByKey (map (moved f) xs)
sorted_moved f [] h = tt
sorted_moved f (x ∷ xs) h = (each_moved f x.key xs h.0, sorted_moved f xs h.1)

pub places_moved : (f : ℕ → ℕ) (c : ℕ) (xs : List KeyedPlace) → places_of c (map (moved f) xs) ≡ map f (places_of c xs)
places_moved f c [] = refl
places_moved f c (x ∷ xs) = by_test (x.key == c) (places_moved f c xs)
  where
    by_test : (b : Bool) → places_of c (map (moved f) xs) ≡ map f (places_of c xs) →
        places_in (cond b (moved f x ∷ own c (map (moved f) xs)) (own c (map (moved f) xs))) ≡ map f (places_in (cond b (x ∷ own c xs) (own c xs)))
    by_test true h = ap (λ rest. f x.place ∷ rest) h
    by_test false h = h

-- the other places, as far as they were looked at
pub moved_more : (f : ℕ → ℕ) (i : ℕ) (xs : List KeyedPlace) (d : KeyedPlace) → i < length xs → set (map (moved f) (take i xs) ++ drop i xs) i (moved f (get_or (map (moved f) (take i xs) ++ drop i xs) i d)) ≡ map (moved f) (take (suc i) xs) ++ drop (suc i) xs
moved_more f i [] d lt = absurd (omega (arith, lt))
moved_more f zero (x ∷ xs) d lt = refl
moved_more f (suc i) (x ∷ xs) d lt = ap (λ rest. moved f x ∷ rest) (moved_more f i xs d (omega (arith, lt)))

pub moved_all : (f : ℕ → ℕ) (i : ℕ) (xs : List KeyedPlace) → length xs ≤ i → map (moved f) (take i xs) ++ drop i xs ≡ map (moved f) xs
moved_all f zero [] le = refl
moved_all f (suc i) [] le = refl
moved_all f zero (x ∷ xs) le = absurd (omega (arith, le))
moved_all f (suc i) (x ∷ xs) le = ap (λ rest. moved f x ∷ rest) (moved_all f i xs (omega (arith, le)))
