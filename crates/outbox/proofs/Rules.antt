-- Each step keeps the rule of a queue.
use Rattle.std.proofs.Common.{◌⊎◌, ◌≡◌, ◌≢◌, ℕ, zero, suc, ◌+◌, ◌<◌, ◌≤◌, true, cond, not, eqb, List, [], ◌∷◌, ◌++◌, length, map, set, sym, refl, ap, ◌∙◌, subst, inl, inr, ⊎_elim, append_assoc, arith}
use Rattle.std.proofs.lemmas.Bool.{cond-true, cond-false, cases_eq, ne_eqb, eq-eqb, eqb-true, true≢false, not_from_true, not_from_false}
use Rattle.std.proofs.lemmas.List.{map-append}
use mathlib.Core.Option.{some, some-injective, some-ne-none}
use lib.ListN.{get_elem?}
use Rattle.crossbeam_queue.specs.Fifo.{Pushes, Pops, Forks, Merges, Learns}
use Rattle.crossbeam_queue.proofs.Lists.{at_set}
use Rattle.outbox.specs.declared.hand.Entry.{Entry}
use Rattle.outbox.specs.declared.hand.Hand.{Hand}
use Rattle.outbox.specs.Lanes.{lane_count, entry, of, Marked, Knows, Alone, Kept, Shows, whole, spent, sent, got, Took, without_first, only_first, adopted}
use Rattle.outbox.proofs.Picks.{pick-append, pick_inner, pick_outer, of_other, marked_snoc, marked_front}

module _ {E : Type 0} where
  abbrev All : (ℕ → Hand E → Type 0) → List (Hand E) → Type 0
  All F views = (port : ℕ) (v : Hand E) → get_elem? views port ≡ some v → F port v

  all_set : (F : ℕ → Hand E → Type 0) (views : List (Hand E)) (port : ℕ) (w : Hand E) → F port w → ((j : ℕ) (u : Hand E) → j ≢ port → get_elem? views j ≡ some u → F j u) → All F (set views port w)
  all_set F views port w mine others j u e = ⊎_elim (λ (x : (j ≡ port) × (w ≡ u)). subst (λ (y : ℕ × Hand E). F y.0 y.1) (λ i. (sym x.0 i, x.1 i)) mine)
      (λ (x : (j ≢ port) × (get_elem? views j ≡ some u)). others j u x.0 x.1) (at_set views port j w u e)

  -- the first item that is held, and what is behind it
  first : (left : List (Entry E)) (x : E) (items : List E) → map (λ y. y.item) left ≡ x ∷ items → (m : Entry E) × (rest : List (Entry E)) × (left ≡ m ∷ rest) × (m.item ≡ x) × (map (λ y. y.item) rest ≡ items)
  first [] x items e = absurd (let n : 0 ≡ length (x ∷ items) = ap length e in omega arith)
  first (m ∷ rest) x items e = (m, rest, refl, ap (front x) e, ap behind e) where
    front : E → List E → E
    front d [] = d
    front d (y ∷ ys) = y

    behind : List E → List E
    behind [] = []
    behind (y ∷ ys) = ys

  pub begins : Kept {E = E} [] (whole ∷ [])
  begins = (0, λ _. 0, [], [], ([], refl, refl, (λ l. tt), λ l _. refl), λ port v e. one port v e) where
    one : (port : ℕ) (v : Hand E) → get_elem? (whole ∷ []) port ≡ some v → Alone 0 (λ _. 0) port v × Knows v [] []
    one zero v e = subst (λ (u : Hand E). Alone 0 (λ _. 0) 0 u × Knows u [] []) (some-injective whole v e) (((λ _. refl), λ l _ _. refl), ((λ _. refl), (λ l _ _. refl), (λ l _. refl), omega arith))
    one (suc port) v e = absurd (some-ne-none v (sym e))

  pub shows : (port : ℕ) (v : Hand E) → Learns Kept port v (Shows v)
  shows port v items views h at = (h.2, h.3, h.4, (h.5 port v at).1)

  pub sends : (n port : ℕ) (v : Hand E) (x : E) → v.from < v.to → Pushes Kept n port v x (λ w. w ≡ sent v x)
  sends n port v x own items views room h at =
      let k = v.from in let n = length (of k v.put) in let e : Entry E = entry k (n + 1) x in let mine = h.5 port v at in let put = h.2 ++ e ∷ [] in
      let top = mine.1.3 in let less : k < v.to = own in
      let same : of k v.put ≡ of k h.2 = mine.1.1 k (omega arith) own in
      let else : (l : ℕ) → k ≢ l → of l put ≡ of l h.2 = λ l out. of_other l h.2 e out in (
        sent v x,
        (
          h.0,
          h.1,
          put,
          h.3,
          (
            h.4.0 ++ e ∷ [],
            ap (λ l. l ++ e ∷ []) h.4.1 ∙ append_assoc h.3 h.4.0 (e ∷ []),
            map-append (λ y. y.item) h.4.0 (e ∷ []) ∙ ap (λ l. l ++ x ∷ []) h.4.2,
            marked_snoc h.2 k x n h.4.3 (ap length same),
            λ l high. else l (λ is. omega arith) ∙ h.4.4 l high,
          ),
          all_set (λ port v. Alone h.0 h.1 port v × Knows v put h.3) views port (sent v x) (
            mine.0,
            (
              mine.1.0,
              (λ l a b. pick-append (λ i. eqb i l) v.put (e ∷ []) ∙ ap (λ t. t ++ of l (e ∷ [])) (mine.1.1 l a b) ∙ sym (pick-append (λ i. eqb i l) h.2 (e ∷ []))),
              (λ l out. of_other l v.put e (λ is. out ((omega arith), omega arith)) ∙ mine.1.2 l out),
              top,
            ),
          )
              (λ j u other at'. let its = h.5 j u at' in (
                its.0,
                (
                  its.1.0,
                  (λ l a b. its.1.1 l a b ∙ sym (else l (λ is. other (its.0.1 l a b ∙ sym (mine.0.1 l (omega arith) (omega arith)))))),
                  its.1.2,
                  its.1.3,
                ),
              )),
        ),
        refl,
      )

  pub gets : (port : ℕ) (v : Hand E) → v.takes ≡ true → Pops Kept port v (Took v)
  gets port v may x items views h at =
      let mine = h.5 port v at in let r = first h.4.0 x items h.4.2 in let m = r.0 in let taken = h.3 ++ m ∷ [] in
      let parts : h.2 ≡ taken ++ r.1 = h.4.1 ∙ ap (λ l. h.3 ++ l) r.2 ∙ sym (append_assoc h.3 (m ∷ []) r.1) in
      let all : v.taken ++ m ∷ [] ≡ taken = ap (λ l. l ++ m ∷ []) (mine.1.0 may) in (
        got v m,
        (
          h.0,
          h.1,
          h.2,
          taken,
          (r.1, parts, r.4, h.4.3, h.4.4),
          all_set (λ port v. Alone h.0 h.1 port v × Knows v h.2 taken) views port (got v m)
              (mine.0, ((λ _. all), mine.1.1, mine.1.2, mine.1.3))
              (λ j u other at'. let its = h.5 j u at' in (its.0, ((λ p. absurd (other (its.0.0 p ∙ sym (mine.0.0 may)))), its.1.1, its.1.2, its.1.3))),
        ),
        (m, r.3, refl, subst (λ (t : List (Entry E)). Marked t) (sym all) (marked_front taken r.1 (subst (λ (t : List (Entry E)). Marked t) parts h.4.3))),
      )

  -- a number at the end of a list is new
  at_new : (l : List (Hand E)) (a b : Hand E) (j : ℕ) → get_elem? (l ++ a ∷ []) j ≡ some b → ((j < length l) × (get_elem? l j ≡ some b)) ⊎ ((j ≡ length l) × (a ≡ b))
  at_new [] a b zero e = inr (refl, some-injective a b e)
  at_new [] a b (suc j) e = absurd (some-ne-none b (sym e))
  at_new (x ∷ xs) a b zero e = inl (omega arith, e)
  at_new (x ∷ xs) a b (suc j) e = ⊎_elim (λ t. inl (let q = t.0 in (omega arith, t.1))) (λ t. inr (ap suc t.0, t.1)) (at_new xs a b j e)

  pub forks : (port : ℕ) (v : Hand E) → v.from < v.to → Forks Kept port v (without_first v) (only_first v)
  forks port v own items views h at =
      let k = v.from in let rest = without_first v in let one = only_first v in let vs = set views port rest in let end = length vs in let mine = h.5 port v at in
      let seat : ℕ → ℕ = λ l. cond (eqb l k) end (h.1 l) in
      let moved : (l : ℕ) → l ≡ k → end ≡ seat l = λ l is. sym (cond-true (eqb l k) end (h.1 l) (eq-eqb l k is)) in
      let stays : (l : ℕ) → l ≢ k → h.1 l ≡ seat l = λ l out. sym (cond-false (eqb l k) end (h.1 l) (ne_eqb l k out)) in
      let Old : ℕ → Hand E → Type 0 = λ j u. Alone h.0 seat j u × Knows u h.2 h.3 in
      let old : All Old vs = all_set Old views port rest (
        (mine.0.0, λ l a b. mine.0.1 l (omega arith) b ∙ stays l (λ is. omega arith)),
        (
          mine.1.0,
          (λ l a b. pick_inner (λ i. eqb i l) (λ i. not (eqb i k)) v.put (λ i is. not_from_false (eqb i k) (ne_eqb i k (λ same. let e = eqb-true i l is in omega arith))) ∙ mine.1.1 l (omega arith) b),
          (λ l out. ⊎_elim
              (λ (is : l ≡ k). pick_outer (λ i. eqb i l) (λ i. not (eqb i k)) v.put (λ i e. not_from_true (eqb i k) (eq-eqb i k (eqb-true i l e ∙ is))))
              (λ (apart : l ≢ k). pick_inner (λ i. eqb i l) (λ i. not (eqb i k)) v.put (λ i is. not_from_false (eqb i k) (ne_eqb i k (λ same. let e = eqb-true i l is in apart (omega arith)))) ∙ mine.1.2 l (λ t. out (let p = t.0 in omega arith, t.1)))
              (cases_eq l k)),
          mine.1.3,
        ),
      )
      (λ j u other e. let its = h.5 j u e in ((its.0.0, λ l a b. its.0.1 l a b ∙ stays l (λ is. other (its.0.1 l a b ∙ ap h.1 is ∙ sym (mine.0.1 k (omega arith) own)))), its.1)) in
      let top : v.to ≤ lane_count = mine.1.3 in
      let fresh : Old end one = (
        ((λ p. absurd (true≢false (sym p))), λ l a b. moved l (omega arith)),
        (
          (λ p. absurd (true≢false (sym p))),
          (λ l a b. let is : l ≡ k = omega arith in pick_inner (λ i. eqb i l) (λ i. eqb i k) v.put (λ i e. eq-eqb i k (eqb-true i l e ∙ is)) ∙ mine.1.1 l a (let e : l ≡ k = is in omega arith)),
          (λ l out. pick_outer (λ i. eqb i l) (λ i. eqb i k) v.put (λ i e. ne_eqb i k (λ same. let p = eqb-true i l e in out (omega arith, omega arith)))),
          omega arith,
        ),
      ) in
      (h.0, seat, h.2, h.3, h.4, λ j u e. ⊎_elim (λ t. old j u t.1) (λ t. subst (λ (y : ℕ × Hand E). Old y.0 y.1) (λ i. (sym t.0 i, t.1 i)) fresh) (at_new vs one u j e))

  pub merges : (port : ℕ) (v : Hand E) (other : ℕ) (u : Hand E) → v.to ≤ v.from → u.to ≡ u.from + 1 → Merges Kept port v other u (adopted v u) spent
  merges port v other u none single items views h at two at' =
      let k = u.from in let both = adopted v u in let vs = set views port both in let mine = h.5 port v at in
      let was : get_elem? views other ≡ some u = ⊎_elim (λ x. absurd (two x.0)) (λ x. x.1) (at_set views port other both u at') in let theirs = h.5 other u was in
      let seat : ℕ → ℕ = λ l. cond (eqb l k) port (h.1 l) in
      let moved : (l : ℕ) → l ≡ k → port ≡ seat l = λ l is. sym (cond-true (eqb l k) port (h.1 l) (eq-eqb l k is)) in
      let stays : (l : ℕ) → l ≢ k → h.1 l ≡ seat l = λ l out. sym (cond-false (eqb l k) port (h.1 l) (ne_eqb l k out)) in
      let F : ℕ → Hand E → Type 0 = λ j y. Alone h.0 seat j y × Knows y h.2 h.3 in
      let now : All (λ j y. j ≢ other → F j y) vs = all_set (λ j y. j ≢ other → F j y) views port both
      (λ _. ((mine.0.0, λ l a b. moved l (omega arith)), (mine.1.0, theirs.1.1, theirs.1.2, theirs.1.3)))
      (λ j y _ e apart. let its = h.5 j y e in ((its.0.0, λ l a b. its.0.1 l a b ∙ stays l (λ is. apart (its.0.1 l a b ∙ ap h.1 is ∙ sym (theirs.0.1 k (omega arith) (omega arith))))), its.1)) in
      let gone : F other spent = (((λ p. absurd (true≢false (sym p))), λ l a b. absurd (omega arith)), ((λ p. absurd (true≢false (sym p))), (λ l a b. absurd (omega arith)), (λ l _. refl), omega arith)) in
      (h.0, seat, h.2, h.3, h.4, all_set F vs other spent gone (λ j y apart e. now j y e apart))

  -- what was taken of a lane begins what was put for it
  pub compares : (v : Hand E) (items : List E) → v.takes ≡ true → v.from < v.to → Shows v items → (more : List (Entry E)) × (of v.from v.put ≡ of v.from v.taken ++ more)
  compares v items may own s = let k = v.from in let left = s.2.0 in (
    of k left,
    s.3.1 k (omega arith) own ∙ ap (λ l. of k l) s.2.1 ∙ pick-append (λ i. eqb i k) s.1 left ∙ ap (λ l. of k l ++ of k left) (sym (s.3.0 may)),
  )
