-- What a loop over a list has counted.
use Rattle.std.proofs.Common.{◌≡◌, ℕ, ◌+◌, ◌<◌, Some, List, [], ◌∷◌, length, map, take, get_or, refl, sym, ap, ◌∙◌, arith}
use Rattle.std.specs.Prelude.{slice_get}
use Rattle.std.specs.List.{enumerate_from}
use Rattle.std.proofs.lemmas.List.{take-map}
use Rattle.std.proofs.lemmas.List.FromFn.{get_or-enumerate_from, length-enumerate_from}
use Rattle.std.proofs.lemmas.Option.{slice_get_read}
use Rattle.router_laws.proofs.Places.{mapped_twice}

uncounted : {A : Type 0} (n : ℕ) (items : List A) → map (λ p. p.1) (enumerate_from n items) ≡ items
uncounted n [] = refl
uncounted {A = A} n (x ∷ items) = ap (λ (rest : List A). x ∷ rest) (uncounted (n + 1) items)

module _ {A : Type 0} (items : List A) (yielded : List (ℕ × A)) where
  -- the items so far, and the next
  pub counted_turn : (index : ℕ) (item : A) → map (λ (p : ℕ × A). (p.0, p.1)) yielded ≡ take (length yielded) (enumerate_from 0 items) →
      length yielded < length (enumerate_from 0 items) → (index, item) ≡ get_or (enumerate_from 0 items) (length yielded) (index, item) →
      (map (λ p. p.1) yielded ≡ take index items) × (slice_get items index ≡ Some item)
  counted_turn index item so_far inside is =
      let n : ℕ = length yielded in
      let within : n < length items = omega (arith, inside, length-enumerate_from 0 items) in
      let here : (index, item) ≡ (0 + n, get_or items n item) = is ∙ get_or-enumerate_from 0 items n (index, item) within in
      let place : index ≡ n = omega (arith, ap (λ (p : ℕ × A). p.0) here) in
      let found : item ≡ get_or items n item = ap (λ (p : ℕ × A). p.1) here in
      let before : map (λ p. p.1) yielded ≡ take n items =
      sym (mapped_twice (λ (p : ℕ × A). p.1) (λ (p : ℕ × A). (p.0, p.1)) yielded)
      ∙ ap (λ (ps : List (ℕ × A)). map (λ p. p.1) ps) so_far
      ∙ sym (take-map (λ (p : ℕ × A). p.1) n (enumerate_from 0 items))
      ∙ ap (λ (xs : List A). take n xs) (uncounted 0 items) in (
        before ∙ ap (λ (k : ℕ). take k items) (sym place),
        ap (λ (k : ℕ). slice_get items k) place ∙ slice_get_read items (length items) n item refl within found,
      )

  -- all of them
  pub counted_all : map (λ (p : ℕ × A). (p.0, p.1)) yielded ≡ enumerate_from 0 items → map (λ p. p.1) yielded ≡ items
  counted_all all =
      sym (mapped_twice (λ (p : ℕ × A). p.1) (λ (p : ℕ × A). (p.0, p.1)) yielded) ∙ ap (λ (ps : List (ℕ × A)). map (λ p. p.1) ps) all ∙ uncounted 0 items
