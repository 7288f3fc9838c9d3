-- What a bus can be opened with.
use Rattle.std.proofs.Common.{◌≡◌, ◌↔◌, suc, Bool, true, false, not, cond, ap, List, [], ◌∷◌, length, refl, sym, ◌∙◌, arith, IsTrue}
use Rattle.std.specs.List.{list_all, list_any, AllByRecursion, IsDistinct}
use Rattle.names.specs.Texts.{Text, text_eq, text_lt}
use Rattle.seq_bus_core.specs.Histories.{inserted, sorted}
use Rattle.seq_bus_core.specs.Steps.{is_reserved}

pub all_unlike : {X : Type 0} (test : X → Bool) (xs : List X) → list_any test xs ≡ false → AllByRecursion (λ x. test x ≡ false) xs
all_unlike test [] h = tt
all_unlike test (x ∷ xs) h = by_test (test x) refl (λ others. all_unlike test xs others) h
  where
    by_test : (b : Bool) → test x ≡ b → (list_any test xs ≡ false → AllByRecursion (λ y. test y ≡ false) xs) →
        list_any test (x ∷ xs) ≡ false → AllByRecursion (λ y. test y ≡ false) (x ∷ xs)
    by_test true e others k = let never : true ≡ false = rw e at k in absurd cc
    by_test false e others k = (e, others (rw e at k))

pub some_like : {X : Type 0} (test : X → Bool) (xs : List X) → list_any test xs ≡ true → AllByRecursion (λ x. test x ≡ false) xs → ⊥
some_like test [] h none = cc
some_like test (x ∷ xs) h none = some_like test xs (rw none.0 at h) none.1

pub all_ownable : (names : List Text) → IsTrue (list_all (λ name. not (is_reserved name)) names) ↔ AllByRecursion (λ name. is_reserved name ≡ false) names
all_ownable [] = (λ h. tt, λ h. refl)
all_ownable (n ∷ names) = by_test (is_reserved n) refl (all_ownable names)
  where
    by_test : (b : Bool) → is_reserved n ≡ b →
        IsTrue (list_all (λ name. not (is_reserved name)) names) ↔ AllByRecursion (λ name. is_reserved name ≡ false) names →
        IsTrue (list_all (λ name. not (is_reserved name)) (n ∷ names)) ↔ AllByRecursion (λ name. is_reserved name ≡ false) (n ∷ names)
    by_test true e others = (λ h. let never : false ≡ true = rw e at h in absurd cc, λ h. let never : true ≡ false = sym e ∙ h.0 in absurd cc)
    by_test false e others = (λ h. (e, others.0 (rw e at h)), λ h. rw e (others.1 h.1))

pub distinct_empty : (names : List Text) → length names ≡ 0 → IsDistinct text_eq names
unfolding IsDistinct
distinct_empty [] h = tt
distinct_empty (n ∷ names) h = absurd (omega (arith, h))

pub distinct_cons : (rest others : List Text) (first : Text) → rest ≡ first ∷ others → AllByRecursion (λ other. text_eq first other ≡ false) others → IsDistinct text_eq others →
    IsDistinct text_eq rest
unfolding IsDistinct
distinct_cons rest others first is unlike distinct = rw is (unlike, distinct)

pub distinct_parts : (rest others : List Text) (first : Text) → rest ≡ first ∷ others → IsDistinct text_eq rest →
    AllByRecursion (λ other. text_eq first other ≡ false) others × IsDistinct text_eq others
unfolding IsDistinct
distinct_parts rest others first is distinct = rw is at distinct

-- the services are as many, in whatever order
pub as_many : (names : List Text) → length (sorted names) ≡ length names
as_many [] = refl
as_many (n ∷ names) = one_more n (sorted names) ∙ ap suc (as_many names)
  where
    one_more : (name : Text) (names : List Text) → length (inserted name names) ≡ suc (length names)
    one_more name [] = refl
    one_more name (n ∷ names) = by_test (text_lt n name) (one_more name names)
      where
        by_test : (b : Bool) → length (inserted name names) ≡ suc (length names) → length (cond b (n ∷ inserted name names) (name ∷ n ∷ names)) ≡ suc (suc (length names))
        by_test true others = ap suc others
        by_test false others = refl
