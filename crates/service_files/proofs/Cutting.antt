-- Texts that are cut into parts.
use Rattle.std.proofs.Common.{◌≡◌, ℕ, suc, ◌+◌, ◌≤◌, Bool, true, false, cond, List, [], ◌∷◌, length, take, drop, Some, None, refl, ap, subst, arith}
use Rattle.std.specs.Prelude.{not, nat_lt}
use Rattle.std.specs.List.{slice_split, onto_first, position, position_or_len}
use Rattle.std.proofs.lemmas.Bool.{ltb-false}
use Rattle.std.proofs.lemmas.List.Quantifiers.{position-Some}
use Rattle.std.proofs.lemmas.List.Sums.{position_or_len_is}
use Rattle.std.proofs.lemmas.List.Splits.{slice_split_first}

-- a cut at the first place that passes
pub split_at : (p : ℕ → Bool) (xs : List ℕ) (i : ℕ) → position p xs ≡ Some i → slice_split p xs ≡ take i xs ∷ slice_split p (drop (i + 1) xs)
split_at p xs i e =
    let found = position-Some p xs i 0 e in
    let here : position_or_len p xs ≡ i = position_or_len_is p xs i 0 (omega (arith, found.0)) found.2 (λ _. found.1) in
    subst (λ (n : ℕ). slice_split p xs ≡ take n xs ∷ slice_split p (drop (n + 1) xs)) here (slice_split_first p xs 0 (omega (arith, found.0, here)))

-- no cut where nothing passes
pub split_whole : (p : ℕ → Bool) (xs : List ℕ) → length xs ≤ position_or_len p xs → slice_split p xs ≡ xs ∷ []
split_whole p [] h = refl
split_whole p (x ∷ xs) h =
    let P : Bool → Type 0 = λ b. suc (length xs) ≤ cond (not b) (1 + position_or_len p xs) 0 → cond b ([] ∷ slice_split p xs) (onto_first x (slice_split p xs)) ≡ (x ∷ xs) ∷ [] in
    (elim (p x) as P [ true ↦ λ k. absurd (omega (arith, k)) | false ↦ λ k. ap (onto_first x) (split_whole p xs (omega (arith, k))) ]) h

none_is_long : (p : ℕ → Bool) (xs : List ℕ) (t : Bool) → nat_lt (position_or_len p xs) (length xs) ≡ t → cond t (Some (position_or_len p xs)) None ≡ None → length xs ≤ position_or_len p xs
none_is_long p xs true e h = absurd (cc)
none_is_long p xs false e h = ltb-false (position_or_len p xs) (length xs) e

pub split_nowhere : (p : ℕ → Bool) (xs : List ℕ) → position p xs ≡ None → slice_split p xs ≡ xs ∷ []
split_nowhere p xs e = split_whole p xs (none_is_long p xs (nat_lt (position_or_len p xs) (length xs)) refl e)
