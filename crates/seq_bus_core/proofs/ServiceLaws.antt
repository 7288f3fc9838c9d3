-- Services by rising bytes.
use Rattle.std.proofs.Common.{◌≡◌, Bool, true, false, ◌||◌, List, [], ◌∷◌, refl, ap, ◌∙◌}
use Rattle.std.specs.List.{AllByRecursion as Each, IsDistinct, list_any}
use Rattle.std.proofs.lemmas.Bool.{cond_both}
use Rattle.names.specs.Texts.{Text, text_eq, text_lt}
use Rattle.seq_bus_core.specs.Histories.{inserted, sorted}
use Rattle.seq_bus_core.specs.Consistency.{Pairwise}
use Rattle.seq_bus_core.specs.Laws.{ServicesRise}
use Rattle.seq_bus_core.proofs.Lists.{each_weaker}
use Rattle.seq_bus_core.proofs.TextLemmas.{text_lt-trans, text_lt-other}

abbrev Before : Text → Text → Type 0
Before a b = text_lt a b ≡ true

each_inserted : (P : Text → Type 0) (name : Text) (names : List Text) → P name → Each P names → Each P (inserted name names)
each_inserted P name [] p h = (p, tt)
each_inserted P name (n ∷ ns) p h = cond_both (text_lt n name) (n ∷ inserted name ns) (name ∷ n ∷ ns) (Each P) (λ _. (h.0, each_inserted P name ns p h.1)) (λ _. (p, h))

each_sorted : (P : Text → Type 0) (names : List Text) → Each P names → Each P (sorted names)
each_sorted P [] h = tt
each_sorted P (n ∷ ns) h = each_inserted P n (sorted ns) h.0 (each_sorted P ns h.1)

inserted_rises : (name : Text) (names : List Text) → Each (λ n. text_eq name n ≡ false) names → Pairwise Before names → Pairwise Before (inserted name names)
inserted_rises name [] differ h = (tt, tt)
inserted_rises name (n ∷ ns) differ h =
    cond_both (text_lt n name) (n ∷ inserted name ns) (name ∷ n ∷ ns) (Pairwise Before) (λ lower. (each_inserted (Before n) name ns lower h.0, inserted_rises name ns differ.1 h.1))
    (λ higher. let first : Before name n = text_lt-other n name higher differ.0 in
    ((first, each_weaker (Before n) (Before name) (λ m later. text_lt-trans name n m first later) ns h.0), h))

sorted_rises : (names : List Text) → IsDistinct text_eq names → Pairwise Before (sorted names)
unfolding IsDistinct
sorted_rises [] h = tt
sorted_rises (n ∷ ns) h = inserted_rises n (sorted ns) (each_sorted (λ m. text_eq n m ≡ false) ns h.0) (sorted_rises ns h.1)

or_swap : (a b c : Bool) → (a || (b || c)) ≡ (b || (a || c))
or_swap true true c = refl
or_swap true false c = refl
or_swap false true c = refl
or_swap false false c = refl

any_inserted : (test : Text → Bool) (name : Text) (names : List Text) → list_any test (inserted name names) ≡ (test name || list_any test names)
any_inserted test name [] = refl
any_inserted test name (n ∷ ns) =
    cond_both (text_lt n name) (n ∷ inserted name ns) (name ∷ n ∷ ns) (λ ms. list_any test ms ≡ (test name || list_any test (n ∷ ns)))
    (λ _. ap (λ b. test n || b) (any_inserted test name ns) ∙ or_swap (test n) (test name) (list_any test ns)) (λ _. refl)

any_sorted : (test : Text → Bool) (names : List Text) → list_any test (sorted names) ≡ list_any test names
any_sorted test [] = refl
any_sorted test (n ∷ ns) = any_inserted test n (sorted ns) ∙ ap (λ b. test n || b) (any_sorted test ns)

pub services_rise : ServicesRise
services_rise services h = (sorted_rises services h, λ name. any_sorted (text_eq name) services)
