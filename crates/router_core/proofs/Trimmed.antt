-- Places that may be vacant: what stands at each, and which lists are the same but for the vacant places behind.
use Rattle.std.proofs.Common.{◌≡◌, ◌≢◌, ℕ, zero, suc, ◌+◌, Bool, false, Option, Some, None, List, [], ◌∷◌, get_or, set, cond, count_by, refl, sym, ap, ◌∙◌, inl, inr, arith}
use Rattle.std.proofs.lemmas.Bool.{cases_eq}
use Rattle.std.proofs.lemmas.List.{get_or-set_other}
use Rattle.std.proofs.lemmas.List.Sums.{sum_by-cons}
use Rattle.router_core.specs.Standing.{before_all, trimmed, placed, vacated}

module _ {A : Type 0} where
  at_front : (o : Option A) (os : List (Option A)) → get_or (before_all o os) 0 None ≡ o
  at_front None [] = refl
  at_front None (x ∷ xs) = refl
  at_front (Some x) os = refl

  behind : (o : Option A) (os : List (Option A)) (k : ℕ) → get_or (before_all o os) (suc k) None ≡ get_or os k None
  behind None [] k = refl
  behind None (x ∷ xs) k = refl
  behind (Some x) os k = refl

  pub get-trimmed : (os : List (Option A)) (k : ℕ) → get_or (trimmed os) k None ≡ get_or os k None
  get-trimmed [] k = refl
  get-trimmed (o ∷ os) zero = at_front o (trimmed os)
  get-trimmed (o ∷ os) (suc k) = behind o (trimmed os) k ∙ get-trimmed os k

  trimmed-none : (os : List (Option A)) → ((k : ℕ) → get_or os k None ≡ None) → trimmed os ≡ []
  trimmed-none [] none = refl
  trimmed-none (o ∷ os) none = ap (λ x. before_all x (trimmed os)) (none 0) ∙ ap (before_all None) (trimmed-none os (λ k. none (suc k)))

  -- what stands at each place says which list it is
  pub trimmed-same : (xs ys : List (Option A)) → ((k : ℕ) → get_or xs k None ≡ get_or ys k None) → trimmed xs ≡ trimmed ys
  trimmed-same [] ys same = sym (trimmed-none ys (λ k. sym (same k)))
  trimmed-same (x ∷ xs) [] same = trimmed-none (x ∷ xs) same
  trimmed-same (x ∷ xs) (y ∷ ys) same = ap (λ o. before_all o (trimmed xs)) (same 0) ∙ ap (before_all y) (trimmed-same xs ys (λ k. same (suc k)))

  -- ## One is written that was there

  set_front : (o : Option A) (os : List (Option A)) (x p : A) → o ≡ Some p → Some x ∷ os ≡ set (before_all o os) 0 (Some x)
  set_front None os x p there = absurd (cc)
  set_front (Some q) os x p there = refl

  set_behind : (o : Option A) (os : List (Option A)) (k : ℕ) (x p : A) → get_or os k None ≡ Some p → before_all o (set os k (Some x)) ≡ set (before_all o os) (suc k) (Some x)
  set_behind None [] k x p there = absurd (cc)
  set_behind None (y ∷ ys) zero x p there = refl
  set_behind None (y ∷ ys) (suc k) x p there = refl
  set_behind (Some q) os k x p there = refl

  pub trimmed-set : (os : List (Option A)) (k : ℕ) (x p : A) → get_or os k None ≡ Some p → trimmed (set os k (Some x)) ≡ set (trimmed os) k (Some x)
  trimmed-set [] k x p there = absurd (cc)
  trimmed-set (o ∷ os) zero x p there = set_front o (trimmed os) x p there
  trimmed-set (o ∷ os) (suc k) x p there = ap (before_all o) (trimmed-set os k x p there) ∙ set_behind o (trimmed os) k x p (get-trimmed os k ∙ there)

  -- ## One is placed

  before_placed : (os : List (Option A)) (k : ℕ) (x : A) → before_all None (placed os k x) ≡ None ∷ placed os k x
  before_placed [] zero x = refl
  before_placed [] (suc k) x = refl
  before_placed (o ∷ os) zero x = refl
  before_placed (o ∷ os) (suc k) x = refl

  placed_front : (o : Option A) (os : List (Option A)) (x : A) → Some x ∷ os ≡ placed (before_all o os) 0 x
  placed_front None [] x = refl
  placed_front None (y ∷ ys) x = refl
  placed_front (Some q) os x = refl

  placed_behind : (o : Option A) (os : List (Option A)) (k : ℕ) (x : A) → before_all o (placed os k x) ≡ placed (before_all o os) (suc k) x
  placed_behind None [] k x = before_placed [] k x
  placed_behind None (y ∷ ys) k x = before_placed (y ∷ ys) k x
  placed_behind (Some q) os k x = refl

  pub trimmed-placed : (os : List (Option A)) (k : ℕ) (x : A) → trimmed (placed os k x) ≡ placed (trimmed os) k x
  trimmed-placed [] zero x = refl
  trimmed-placed [] (suc k) x = ap (before_all None) (trimmed-placed [] k x) ∙ before_placed [] k x
  trimmed-placed (o ∷ os) zero x = placed_front o (trimmed os) x
  trimmed-placed (o ∷ os) (suc k) x = ap (before_all o) (trimmed-placed os k x) ∙ placed_behind o (trimmed os) k x

  pub get-placed : (os : List (Option A)) (k : ℕ) (x : A) → get_or (placed os k x) k None ≡ Some x
  get-placed [] zero x = refl
  get-placed [] (suc k) x = get-placed [] k x
  get-placed (o ∷ os) zero x = refl
  get-placed (o ∷ os) (suc k) x = get-placed os k x

  pub get-placed_other : (os : List (Option A)) (k j : ℕ) (x : A) → j ≢ k → get_or (placed os k x) j None ≡ get_or os j None
  get-placed_other [] zero zero x other = absurd (other refl)
  get-placed_other [] zero (suc j) x other = refl
  get-placed_other [] (suc k) zero x other = refl
  get-placed_other [] (suc k) (suc j) x other = get-placed_other [] k j x (λ e. other (ap suc e))
  get-placed_other (o ∷ os) zero zero x other = absurd (other refl)
  get-placed_other (o ∷ os) zero (suc j) x other = refl
  get-placed_other (o ∷ os) (suc k) zero x other = refl
  get-placed_other (o ∷ os) (suc k) (suc j) x other = get-placed_other os k j x (λ e. other (ap suc e))

  -- ## One is vacant

  set_none : (os : List (Option A)) (k : ℕ) → get_or (set os k None) k None ≡ None
  set_none [] k = refl
  set_none (o ∷ os) zero = refl
  set_none (o ∷ os) (suc k) = set_none os k

  pub get-vacated : (os : List (Option A)) (k : ℕ) → get_or (vacated os k) k None ≡ None
  get-vacated os k = get-trimmed (set os k None) k ∙ set_none os k

  pub get-vacated_other : (os : List (Option A)) (k j : ℕ) → j ≢ k → get_or (vacated os k) j None ≡ get_or os j None
  get-vacated_other os k j other = get-trimmed (set os k None) j ∙ get_or-set_other os k j None None other

  pub trimmed-vacated : (os : List (Option A)) (k : ℕ) → trimmed (set os k None) ≡ vacated (trimmed os) k
  trimmed-vacated os k = trimmed-same (set os k None) (set (trimmed os) k None) at
    where
      at : (j : ℕ) → get_or (set os k None) j None ≡ get_or (set (trimmed os) k None) j None
      at j =
          elim (cases_eq j k) [
            | inl same ↦ ap (λ n. get_or (set os k None) n None) same ∙ set_none os k ∙ sym (set_none (trimmed os) k) ∙ ap (λ n. get_or (set (trimmed os) k None) n None) (sym same)
            | inr other ↦ get_or-set_other os k j None None other ∙ sym (get-trimmed os j) ∙ sym (get_or-set_other (trimmed os) k j None None other)
          ]

  -- ## How many there are

  module _ (test : Option A → Bool) (none : test None ≡ false) where
    abbrev one_if : Bool → ℕ
    one_if b = cond b 1 0

    abbrev one : Option A → ℕ
    one o = one_if (test o)

    count_before : (o : Option A) (os : List (Option A)) → count_by test (before_all o os) ≡ count_by test (o ∷ os)
    count_before None [] =
        let never : one None ≡ 0 = ap (λ (b : Bool). one_if b) none in
        omega (arith, never, sum_by-cons one None [])
    count_before None (y ∷ ys) = refl
    count_before (Some x) os = refl

    pub count-trimmed : (os : List (Option A)) → count_by test (trimmed os) ≡ count_by test os
    count-trimmed [] = refl
    count-trimmed (o ∷ os) =
        count_before o (trimmed os) ∙ sum_by-cons one o (trimmed os) ∙ ap (λ n. one o + n) (count-trimmed os) ∙ sym (sum_by-cons one o os)
