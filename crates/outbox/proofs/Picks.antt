-- The entries of one lane, and their numbers.
use Rattle.std.proofs.Common.{◌≡◌, ◌≢◌, ℕ, ◌+◌, Bool, true, false, cond, eqb, List, [], ◌∷◌, ◌++◌, length, sym, refl, ap, ◌∙◌, subst, ⊎_elim, append-nil, arith}
use Rattle.std.proofs.lemmas.Bool.{cond-true, cond-false, cases_Bool, cases_eq, ne_eqb, eq-eqb, true≢false}
use Rattle.outbox.specs.declared.hand.Entry.{Entry}
use Rattle.outbox.specs.Lanes.{entry, pick, of, Counts, Marked}

module _ {E : Type 0} where
  pub pick-append : (p : ℕ → Bool) (xs ys : List (Entry E)) → pick p (xs ++ ys) ≡ pick p xs ++ pick p ys
  pick-append p [] ys = refl
  pick-append p (x ∷ xs) ys = elim (p x.lane) as (λ b. cond b (x ∷ pick p (xs ++ ys)) (pick p (xs ++ ys)) ≡ cond b (x ∷ pick p xs) (pick p xs) ++ pick p ys) [
    | true ↦ ap (λ (l : List (Entry E)). x ∷ l) (pick-append p xs ys)
    | false ↦ pick-append p xs ys
  ]

  -- what passes p passes q too
  pub pick_inner : (p q : ℕ → Bool) (xs : List (Entry E)) → ((k : ℕ) → p k ≡ true → q k ≡ true) → pick p (pick q xs) ≡ pick p xs
  pick_inner p q [] h = refl
  pick_inner p q (x ∷ xs) h = let ih = pick_inner p q xs h in ⊎_elim
      (λ (e : q x.lane ≡ true). ap (λ b. pick p (cond b (x ∷ pick q xs) (pick q xs))) e ∙ ap (λ (l : List (Entry E)). cond (p x.lane) (x ∷ l) l) ih)
      (λ (e : q x.lane ≡ false). ap (λ b. pick p (cond b (x ∷ pick q xs) (pick q xs))) e ∙ ih
      ∙ sym (⊎_elim (λ (t : p x.lane ≡ true). absurd (true≢false (sym (h x.lane t) ∙ e))) (λ (t : p x.lane ≡ false). cond-false (p x.lane) (x ∷ pick p xs) (pick p xs) t) (cases_Bool (p x.lane))))
      (cases_Bool (q x.lane))

  -- nothing passes both
  pub pick_outer : (p q : ℕ → Bool) (xs : List (Entry E)) → ((k : ℕ) → p k ≡ true → q k ≡ false) → pick p (pick q xs) ≡ []
  pick_outer p q [] h = refl
  pick_outer p q (x ∷ xs) h = let ih = pick_outer p q xs h in ⊎_elim
      (λ (e : q x.lane ≡ true). ap (λ b. pick p (cond b (x ∷ pick q xs) (pick q xs))) e
      ∙ ⊎_elim (λ (t : p x.lane ≡ true). absurd (true≢false (sym e ∙ h x.lane t))) (λ (t : p x.lane ≡ false). cond-false (p x.lane) (x ∷ pick p (pick q xs)) (pick p (pick q xs)) t ∙ ih) (cases_Bool (p x.lane)))
      (λ (e : q x.lane ≡ false). ap (λ b. pick p (cond b (x ∷ pick q xs) (pick q xs))) e ∙ ih)
      (cases_Bool (q x.lane))

  pub of_same : (l : ℕ) (xs : List (Entry E)) (e : Entry E) → e.lane ≡ l → of l (xs ++ e ∷ []) ≡ of l xs ++ e ∷ []
  of_same l xs e is = pick-append (λ k. eqb k l) xs (e ∷ []) ∙ ap (λ (t : List (Entry E)). of l xs ++ t) (cond-true (eqb e.lane l) (e ∷ []) [] (eq-eqb e.lane l is))

  pub of_other : (l : ℕ) (xs : List (Entry E)) (e : Entry E) → e.lane ≢ l → of l (xs ++ e ∷ []) ≡ of l xs
  of_other l xs e apart = pick-append (λ k. eqb k l) xs (e ∷ []) ∙ ap (λ (t : List (Entry E)). of l xs ++ t) (cond-false (eqb e.lane l) (e ∷ []) [] (ne_eqb e.lane l apart)) ∙ append-nil (of l xs)

  counts_snoc : (n : ℕ) (xs : List (Entry E)) (e : Entry E) → Counts n xs → e.number ≡ (n + length xs) + 1 → Counts n (xs ++ e ∷ [])
  counts_snoc n [] e h is = (omega arith, tt)
  counts_snoc n (x ∷ xs) e h is = (h.0, counts_snoc (n + 1) xs e h.1 (omega arith))

  counts_front : (n : ℕ) (xs ys : List (Entry E)) → Counts n (xs ++ ys) → Counts n xs
  counts_front n [] ys h = tt
  counts_front n (x ∷ xs) ys h = (h.0, counts_front (n + 1) xs ys h.1)

  pub marked_snoc : (xs : List (Entry E)) (k : ℕ) (x : E) (n : ℕ) → Marked xs → n ≡ length (of k xs) → Marked (xs ++ entry k (n + 1) x ∷ [])
  marked_snoc xs k x n m is l = let e : Entry E = entry k (n + 1) x in ⊎_elim
      (λ (same : k ≡ l). let long : length (of k xs) ≡ length (of l xs) = ap (λ j. length (of j xs)) same in subst (λ (t : List (Entry E)). Counts 0 t) (sym (of_same l xs e same)) (counts_snoc 0 (of l xs) e (m l) (omega arith)))
      (λ (apart : k ≢ l). subst (λ (t : List (Entry E)). Counts 0 t) (sym (of_other l xs e apart)) (m l))
      (cases_eq k l)

  pub marked_front : (xs ys : List (Entry E)) → Marked (xs ++ ys) → Marked xs
  marked_front xs ys m l = counts_front 0 (of l xs) (of l ys) (subst (λ (t : List (Entry E)). Counts 0 t) (pick-append (λ k. eqb k l) xs ys) (m l))
