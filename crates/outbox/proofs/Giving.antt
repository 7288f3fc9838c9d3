-- One more lane is given away.
use Rattle.std.proofs.Common.{◌≡◌, ℕ, zero, suc, ◌+◌, ◌<◌, List, [], ◌∷◌, ◌++◌, map, All, sym, refl, ap, ◌∙◌, subst, arith}
use Rattle.outbox.specs.Lanes.{End, lane_count, with, only_first, without_first, gives, keeps_rest, lane_end, lanes_of, HasGiven, MayPut}

module _ {E : Type 0} where
  pub may_put : (n : ℕ) (ends : List (End E)) → n < lane_count → All (HasGiven n) ends → All MayPut ends
  may_put n ends less all k d in' = let is = all k d in' in subst (λ v. v.from < v.to) (sym is) less

  same_lane : (l : ℕ) (ends : List (End E)) → map (lane_end l) (map keeps_rest ends) ≡ map (lane_end l) ends
  same_lane l [] = refl
  same_lane l (e ∷ ends) = ap (λ (t : List (End E)). lane_end l e ∷ t) (same_lane l ends)

  same_lanes : (n : ℕ) (ends : List (End E)) → lanes_of n (map keeps_rest ends) ≡ lanes_of n ends
  same_lanes zero ends = refl
  same_lanes (suc n) ends = λ i. same_lanes n ends i ++ same_lane n ends i ∷ []

  tail : (P : End E → Type 0) (e : End E) (ends : List (End E)) → All P (e ∷ ends) → All P ends
  tail P e ends h k d in' = h (suc k) d (omega arith)

  new_lane : (n : ℕ) (ends : List (End E)) → All (HasGiven n) ends → map gives ends ≡ map (lane_end n) ends
  new_lane n [] h = refl
  new_lane n (e ∷ ends) h = λ i. with e (only_first (h 0 e (omega arith) i)) ∷ new_lane n ends (tail (HasGiven n) e ends h) i

  pub one_more : (n : ℕ) (ends : List (End E)) → All (HasGiven n) ends → lanes_of n ends ++ map gives ends ∷ [] ≡ lanes_of (suc n) (map keeps_rest ends)
  one_more n ends h = λ i. sym (same_lanes n ends) i ++ (new_lane n ends h ∙ sym (same_lane n ends)) i ∷ []

  pub given_more : (n : ℕ) (ends : List (End E)) → All (HasGiven n) ends → All (HasGiven (n + 1)) (map keeps_rest ends)
  given_more n [] h k d in' = absurd (omega arith)
  given_more n (e ∷ ends) h zero d in' = ap without_first (h 0 e (omega arith))
  given_more n (e ∷ ends) h (suc k) d in' = given_more n ends (tail (HasGiven n) e ends h) k d (omega arith)
