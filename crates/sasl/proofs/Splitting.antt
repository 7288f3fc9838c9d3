-- Texts that are cut into parts.
use Rattle.std.proofs.Common.{◌≡◌, ℕ, suc, ◌+◌, ◌≤◌, Bool, true, false, cond, List, [], ◌∷◌, ◌++◌, length, take, drop, Option, Some, None, refl, sym, ap, subst, ◌∙◌, arith}
use Rattle.std.specs.Prelude.{◌||◌, ◌==◌, not}
use Rattle.std.specs.List.{list_any, slice_split, onto_first, position, position_or_len, join_with_byte}
use Rattle.std.proofs.lemmas.Bool.{true≢false, ltb-false}
use Rattle.std.proofs.lemmas.List.Quantifiers.{position-Some}
use Rattle.std.proofs.lemmas.List.Sums.{position_or_len_is}
use Rattle.std.proofs.lemmas.List.Splits.{slice_split_first, join_with_byte-slice_split}
use Rattle.std.specs.Prelude.{nat_lt, is_some}
use Rattle.std.specs.Borrow.{Bor}
use Rattle.sasl.specs.Words.{parts_of}
use Rattle.sasl.specs.Hearing.{is_nil}

pub or_parts : (x y : Bool) → (x || y) ≡ false → (x ≡ false) × (y ≡ false)
or_parts true y h = absurd (true≢false h)
or_parts false y h = (refl, h)

pub or_none : (x y : Bool) → x ≡ false → y ≡ false → (x || y) ≡ false
or_none x y p q = ap (λ (t : Bool). t || y) p ∙ q

-- a cut at the first place that passes
pub split_at : (p : ℕ → Bool) (xs : List ℕ) (i : ℕ) → position p xs ≡ Some i → slice_split p xs ≡ take i xs ∷ slice_split p (drop (i + 1) xs)
split_at p xs i e =
    let found = position-Some p xs i 0 e in
    let here : position_or_len p xs ≡ i = position_or_len_is p xs i 0 (omega (arith, found.0)) found.2 (λ _. found.1) in
    subst (λ (n : ℕ). slice_split p xs ≡ take n xs ∷ slice_split p (drop (n + 1) xs)) here (slice_split_first p xs 0 (omega (arith, found.0, here)))

whole : (p : ℕ → Bool) (xs : List ℕ) → length xs ≤ position_or_len p xs → slice_split p xs ≡ xs ∷ []
whole p [] h = refl
whole p (x ∷ xs) h =
    let P : Bool → Type 0 = λ b. suc (length xs) ≤ cond (not b) (1 + position_or_len p xs) 0 → cond b ([] ∷ slice_split p xs) (onto_first x (slice_split p xs)) ≡ (x ∷ xs) ∷ [] in
    (elim (p x) as P [ true ↦ λ k. absurd (omega (arith, k)) | false ↦ λ k. ap (onto_first x) (whole p xs (omega (arith, k))) ]) h

none_is_long : (p : ℕ → Bool) (xs : List ℕ) (t : Bool) → nat_lt (position_or_len p xs) (length xs) ≡ t → cond t (Some (position_or_len p xs)) None ≡ None → length xs ≤ position_or_len p xs
none_is_long p xs true e h = absurd (cc)
none_is_long p xs false e h = ltb-false (position_or_len p xs) (length xs) e

-- no cut where nothing passes
pub split_nowhere : (p : ℕ → Bool) (xs : List ℕ) → position p xs ≡ None → slice_split p xs ≡ xs ∷ []
split_nowhere p xs e = whole p xs (none_is_long p xs (nat_lt (position_or_len p xs) (length xs)) refl e)

-- the same where it is known what stands before the cut
pub split_behind : (p : ℕ → Bool) (xs : List ℕ) (y : ℕ) (ys : List ℕ) → list_any p xs ≡ false → p y ≡ true → slice_split p (xs ++ y ∷ ys) ≡ xs ∷ slice_split p ys
split_behind p [] y ys none here = ap (λ (t : Bool). cond t ([] ∷ slice_split p ys) (onto_first y (slice_split p ys))) here
split_behind p (x ∷ xs) y ys none here =
    let parts = or_parts (p x) (list_any p xs) none in
    ap (λ (t : Bool). cond t ([] ∷ slice_split p (xs ++ y ∷ ys)) (onto_first x (slice_split p (xs ++ y ∷ ys)))) parts.0 ∙ ap (onto_first x) (split_behind p xs y ys parts.1 here)

pub split_none : (p : ℕ → Bool) (xs : List ℕ) → list_any p xs ≡ false → slice_split p xs ≡ xs ∷ []
split_none p [] none = refl
split_none p (x ∷ xs) none =
    let parts = or_parts (p x) (list_any p xs) none in
    ap (λ (t : Bool). cond t ([] ∷ slice_split p xs) (onto_first x (slice_split p xs))) parts.0 ∙ ap (onto_first x) (split_none p xs parts.1)

abbrev first_part : List (List ℕ) → List ℕ
first_part [] = []
first_part (part ∷ parts) = part

joins_none : (p : ℕ → Bool) (x : ℕ) (parts : List (List ℕ)) → p x ≡ false → list_any p (first_part parts) ≡ false → list_any p (first_part (onto_first x parts)) ≡ false
joins_none p x [] fails none = or_none (p x) false fails refl
joins_none p x (part ∷ parts) fails none = or_none (p x) (list_any p part) fails none

first_has_none : (p : ℕ → Bool) (xs : List ℕ) → list_any p (first_part (slice_split p xs)) ≡ false
first_has_none p [] = refl
first_has_none p (x ∷ xs) = go (p x) refl (first_has_none p xs)
  where
    go : (t : Bool) → p x ≡ t → list_any p (first_part (slice_split p xs)) ≡ false → list_any p (first_part (cond t ([] ∷ slice_split p xs) (onto_first x (slice_split p xs)))) ≡ false
    go true e none = refl
    go false e none = joins_none p x (slice_split p xs) e none

-- nothing that passes stands in the first part
pub first_part_has_none : (p : ℕ → Bool) (xs first : List ℕ) (others : List (List ℕ)) → slice_split p xs ≡ first ∷ others → list_any p first ≡ false
first_part_has_none p xs first others e = sym (ap (λ (parts : List (List ℕ)). list_any p (first_part parts)) e) ∙ first_has_none p xs

-- two parts, joined
pub two_parts : (c : ℕ) (xs first second : List ℕ) → slice_split (λ b. b == c) xs ≡ first ∷ second ∷ [] → xs ≡ first ++ c ∷ second
two_parts c xs first second e = sym (join_with_byte-slice_split c xs) ∙ ap (join_with_byte c) e

pub one_part : (c : ℕ) (xs part : List ℕ) → slice_split (λ b. b == c) xs ≡ part ∷ [] → xs ≡ part
one_part c xs part e = sym (join_with_byte-slice_split c xs) ∙ ap (join_with_byte c) e

onto_first_is_some : (x : ℕ) (parts : List (List ℕ)) → is_nil (onto_first x parts) ≡ false
onto_first_is_some x [] = refl
onto_first_is_some x (part ∷ parts) = refl

-- there are always parts
pub some_parts : (p : ℕ → Bool) (xs : List ℕ) → is_nil (slice_split p xs) ≡ false
some_parts p [] = refl
some_parts p (x ∷ xs) =
    elim (p x) as (λ (b : Bool). is_nil (cond b ([] ∷ slice_split p xs) (onto_first x (slice_split p xs))) ≡ false) [ true ↦ refl | false ↦ onto_first_is_some x (slice_split p xs) ]

-- no words are left where there is no text
pub none_left : (at : ℕ) (left : Option (Bor (List ℕ))) (r : Bool) → is_some left ≡ not r → r ≡ is_nil (parts_of at left)
none_left at None true e = refl
none_left at None false e = absurd (true≢false (sym e))
none_left at (Some behind) true e = absurd (true≢false e)
none_left at (Some behind) false e = sym (some_parts (λ b. b == at) behind.now)
