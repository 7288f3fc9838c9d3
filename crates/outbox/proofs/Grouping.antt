-- Taps by groups.
use Rattle.std.proofs.Common.{◌≡◌, ◌≢◌, ℕ, zero, suc, ◌+◌, ◌*◌, ◌<◌, ◌≤◌, List, [], ◌∷◌, ◌++◌, length, map, take, sym, refl, ap, ◌∙◌, ⊎_elim, append_assoc, append-nil, arith, Vec}
use Rattle.std.proofs.Math.Nat.{suc-mul, add-mul, mul-le-mul_right}
use Rattle.std.proofs.lemmas.Bool.{cases_eq}
use Rattle.std.proofs.lemmas.List.{length-append, take_all, take-append-le}
use Rattle.std.proofs.lemmas.List.Concat.{flat_map-append}
use Rattle.outbox.specs.Lanes.{End, lane_end, lanes_of, all_of}

-- a group more fits
pub fits : (k n places t : ℕ) → k < n → t + k * places ≡ n * places → places ≤ t
fits k n places t less is = let m : suc k * places ≤ n * places = mul-le-mul_right places less in omega (arith, is, m, suc-mul k places)

pub fits_after : (k places t rest all : ℕ) → rest + places ≡ t → t + k * places ≡ all → rest + (k + 1) * places ≡ all
fits_after k places t rest all long is = omega (arith, long, is, add-mul k 1 places)

module _ {E Z : Type 0} where
  pub all_of-push : (rows : List (Vec (End E) Z)) (row : Vec (End E) Z) (rest all : List (End E)) → all_of rows ++ (row.items ++ rest) ≡ all → all_of (rows ++ row ∷ []) ++ rest ≡ all
  all_of-push rows row rest all is =
      ap (λ (t : List (End E)). t ++ rest) (flat_map-append (λ (g : Vec (End E) Z). g.items) rows (row ∷ []) ∙ ap (λ (t : List (End E)). all_of rows ++ t) (append-nil row.items))
      ∙ append_assoc (all_of rows) row.items rest ∙ is

module _ {E : Type 0} where
  length-lanes_of : (n : ℕ) (taps : List (End E)) → length (lanes_of n taps) ≡ n
  length-lanes_of zero taps = refl
  length-lanes_of (suc n) taps = let e = length-lanes_of n taps in omega (arith, e, length-append (lanes_of n taps) (map (lane_end n) taps ∷ []))

  pub take-lanes_of : (n m : ℕ) (taps : List (End E)) → n ≤ m → take n (lanes_of m taps) ≡ lanes_of n taps
  take-lanes_of n zero taps le = let none : n ≡ 0 = omega arith in ap (λ k. take k []) none ∙ ap (λ k. lanes_of k taps) (sym none)
  take-lanes_of n (suc m) taps le = ⊎_elim
      (λ (is : n ≡ suc m). take_all n (lanes_of (suc m) taps) (omega (arith, is, length-lanes_of (suc m) taps)) ∙ ap (λ k. lanes_of k taps) (sym is))
      (λ (apart : n ≢ suc m). take-append-le n (lanes_of m taps) (map (lane_end m) taps ∷ []) (omega (arith, apart, length-lanes_of m taps)) ∙ take-lanes_of n m taps (omega (arith, apart)))
      (cases_eq n (suc m))
