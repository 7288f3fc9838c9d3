-- Texts that are cut into parts.
use Rattle.std.proofs.Common.{◌≡◌, ℕ, suc, ◌+◌, ◌≤◌, ◌<◌, Bool, true, false, cond, List, [], ◌∷◌, length, refl, ap, ◌∙◌, sym, arith}
use Rattle.std.specs.Prelude.{not}
use Rattle.std.specs.List.{slice_split, onto_first, position_or_len, before_first, after_first}
use Rattle.std.proofs.lemmas.List.Splits.{slice_split_first}
use Rattle.names.specs.Texts.{Text}

-- no cut where nothing passes
pub split_whole : (p : ℕ → Bool) (xs : List ℕ) → length xs ≤ position_or_len p xs → slice_split p xs ≡ xs ∷ []
split_whole p [] h = refl
split_whole p (x ∷ xs) h =
    let P : Bool → Type 0 = λ b. suc (length xs) ≤ cond (not b) (1 + position_or_len p xs) 0 → cond b ([] ∷ slice_split p xs) (onto_first x (slice_split p xs)) ≡ (x ∷ xs) ∷ [] in
    (elim (p x) as P [ true ↦ λ k. absurd (omega (arith, k)) | false ↦ λ k. ap (onto_first x) (split_whole p xs (omega (arith, k))) ]) h

-- a cut at the first separator
pub split_there : (p : ℕ → Bool) (text part behind : Text) → position_or_len p text < length text → part ≡ before_first p text → behind ≡ after_first p text → slice_split p text ≡ part ∷ slice_split p behind
split_there p text part behind inside e f =
    slice_split_first p text 0 inside ∙ sym (ap (λ (x : Text). x ∷ slice_split p behind) e ∙ ap (λ (x : Text). before_first p text ∷ slice_split p x) f)
