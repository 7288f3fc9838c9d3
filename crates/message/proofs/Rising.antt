-- Fields by rising code, and how often a known one stands among them.
use Rattle.std.proofs.Common.{◌≡◌, ℕ, suc, ◌+◌, ◌≤◌, ◌<◌, Bool, true, false, cond, leb, List, [], ◌∷◌, ◌++◌, Option, Some, None, refl, sym, ap, subst, ◌∙◌, append_assoc, arith, inl, inr}
use Rattle.std.specs.Prelude.{◌⊎◌, ◌==◌, if◌then◌else◌}
use Rattle.std.specs.List.{AllByRecursion}
use Rattle.std.proofs.lemmas.List.{append-nil}
use Rattle.marshal_core.specs.Values.{Val}
use Rattle.marshal_core.proofs.Results.{leb_true, leb_false, leb-yes, leb-no, eqb-yes}
use Rattle.message_core.specs.declared.header_field.HeaderField.{HeaderField}
use Rattle.message_core.specs.Kinds.{code_of}
use Rattle.message_core.specs.HeaderFields.{Field, IsField, value_of, AreFields, insert_field, by_code}

pub le_or_above : (a b : ℕ) → (a ≤ b) ⊎ (b < a)
le_or_above a b = told (leb a b) refl where
  told : (c : Bool) → leb a b ≡ c → (a ≤ b) ⊎ (b < a)
  told true e = inl (leb-yes a b e)
  told false e = inr (leb-no a b e)

-- ---- by rising code

abbrev pub Rises : ℕ → List Field → Type 0
Rises low [] = Unit {0}
Rises low (f ∷ fs) = (low ≤ f.code) × Rises f.code fs

pub rises_lower : (low high : ℕ) (fs : List Field) → low ≤ high → Rises high fs → Rises low fs
rises_lower low high [] le h = tt
rises_lower low high (f ∷ fs) le h = (omega (arith, h.0), h.1)

pub rises_insert : (low : ℕ) (f : Field) (gs : List Field) → low ≤ f.code → Rises low gs → Rises low (insert_field f gs)
rises_insert low f [] le h = (le, tt)
rises_insert low f (g ∷ gs) le h = at (le_or_above f.code g.code) (λ k. rises_insert g.code f gs k h.1) where
  at : (f.code ≤ g.code) ⊎ (g.code < f.code) → (g.code ≤ f.code → Rises g.code (insert_field f gs)) → Rises low (insert_field f (g ∷ gs))
  at (inl c) ih = rw (leb_true f.code g.code c) (le, (c, h.1))
  at (inr c) ih = rw (leb_false f.code g.code c) (h.0, ih (omega arith))

pub by_code_rises : (fs : List Field) → Rises 0 (by_code fs)
by_code_rises [] = tt
by_code_rises (f ∷ fs) = rises_insert 0 f (by_code fs) (omega arith) (by_code_rises fs)

pub sorted_again : (low : ℕ) (fs : List Field) → Rises low fs → by_code fs ≡ fs
sorted_again low [] h = refl
sorted_again low (f ∷ []) h = refl
sorted_again low (f ∷ g ∷ gs) h = ap (insert_field f) (sorted_again f.code (g ∷ gs) h.1) ∙ rw (leb_true f.code g.code h.1.0) refl

-- ---- how often a known field stands there

abbrev pub times : ℕ → List Field → ℕ
times c [] = 0
times c (f ∷ fs) = if f.code == c then suc (times c fs) else times c fs

times_append : (c : ℕ) (fs gs : List Field) → times c (fs ++ gs) ≡ times c fs + times c gs
times_append c [] gs = omega arith
times_append c (f ∷ fs) gs = at (f.code == c) (times_append c fs gs) where
  at : (b : Bool) → times c (fs ++ gs) ≡ times c fs + times c gs → cond b (suc (times c (fs ++ gs))) (times c (fs ++ gs)) ≡ cond b (suc (times c fs)) (times c fs) + times c gs
  at true ih = omega (arith, ih)
  at false ih = ih

swapped : (a b : Bool) (n : ℕ) → cond a (suc (cond b (suc n) n)) (cond b (suc n) n) ≡ cond b (suc (cond a (suc n) n)) (cond a (suc n) n)
swapped true true n = refl
swapped true false n = refl
swapped false true n = refl
swapped false false n = refl

pub times_insert : (c : ℕ) (f : Field) (gs : List Field) → times c (insert_field f gs) ≡ times c (f ∷ gs)
times_insert c f [] = refl
times_insert c f (g ∷ gs) = at (le_or_above f.code g.code) (times_insert c f gs) where
  at : (f.code ≤ g.code) ⊎ (g.code < f.code) → times c (insert_field f gs) ≡ times c (f ∷ gs) → times c (insert_field f (g ∷ gs)) ≡ times c (f ∷ g ∷ gs)
  at (inl k) ih = rw (leb_true f.code g.code k) refl
  at (inr k) ih = rw (leb_false f.code g.code k) (ap (λ (n : ℕ). cond (g.code == c) (suc n) n) ih ∙ swapped (g.code == c) (f.code == c) (times c gs))

pub times_by_code : (c : ℕ) (fs : List Field) → times c (by_code fs) ≡ times c fs
times_by_code c [] = refl
times_by_code c (f ∷ fs) = times_insert c f (by_code fs) ∙ ap (λ (n : ℕ). cond (f.code == c) (suc n) n) (times_by_code c fs)

abbrev there : Val → Option Val
there v = Some v

not_there : (v : Val) → there v ≡ None → ⊥
not_there v e = cc

-- what is not there stands there no time
none_times : (k : HeaderField) (fs : List Field) → value_of k fs ≡ None → times (code_of k) fs ≡ 0
none_times k [] e = refl
none_times k (f ∷ fs) e = at (f.code == code_of k) refl (none_times k fs) where
  at : (b : Bool) → (f.code == code_of k) ≡ b → (value_of k fs ≡ None → times (code_of k) fs ≡ 0) → times (code_of k) (f ∷ fs) ≡ 0
  at true c ih = absurd (not_there f.value (ap (λ (b : Bool). if b then Some f.value else value_of k fs) (sym c) ∙ e))
  at false c ih = rw c (ih (ap (λ (b : Bool). if b then Some f.value else value_of k fs) (sym c) ∙ e))

times_none : (k : HeaderField) (fs : List Field) → times (code_of k) fs ≡ 0 → value_of k fs ≡ None
times_none k [] e = refl
times_none k (f ∷ fs) e = at (f.code == code_of k) refl (times_none k fs) where
  at : (b : Bool) → (f.code == code_of k) ≡ b → (times (code_of k) fs ≡ 0 → value_of k fs ≡ None) → value_of k (f ∷ fs) ≡ None
  at true c ih = absurd (let h : suc (times (code_of k) fs) ≡ 0 = ap (λ (b : Bool). cond b (suc (times (code_of k) fs)) (times (code_of k) fs)) (sym c) ∙ e in omega arith)
  at false c ih = rw c (ih (ap (λ (b : Bool). cond b (suc (times (code_of k) fs)) (times (code_of k) fs)) (sym c) ∙ e))

-- no known field stands there twice
abbrev pub AreOnce : List Field → Type 0
AreOnce fs = (k : HeaderField) → times (code_of k) fs ≤ 1

one_more : (k : HeaderField) (before fs : List Field) (f : Field) → times (code_of k) (before ++ f ∷ []) + times (code_of k) fs ≡ times (code_of k) before + times (code_of k) (f ∷ fs)
one_more k before fs f = at (f.code == code_of k) (times_append (code_of k) before (f ∷ [])) where
  at : (b : Bool) → times (code_of k) (before ++ f ∷ []) ≡ times (code_of k) before + cond b 1 0 → times (code_of k) (before ++ f ∷ []) + times (code_of k) fs ≡ times (code_of k) before + cond b (suc (times (code_of k) fs)) (times (code_of k) fs)
  at true e = omega (arith, e)
  at false e = omega (arith, e)

pub fields_all : (before fs : List Field) → AreFields before fs → AllByRecursion IsField fs
fields_all before [] h = tt
fields_all before (f ∷ fs) h = (h.0.0, fields_all (before ++ f ∷ []) fs h.1)

follows_once : (k : HeaderField) (before : List Field) (f : Field) → (f.code ≡ code_of k → value_of k before ≡ None) → times (code_of k) before ≤ 1 → times (code_of k) (before ++ f ∷ []) ≤ 1
follows_once k before f new h = at (f.code == code_of k) refl (times_append (code_of k) before (f ∷ [])) where
  at : (b : Bool) → (f.code == code_of k) ≡ b → times (code_of k) (before ++ f ∷ []) ≡ times (code_of k) before + cond b 1 0 → times (code_of k) (before ++ f ∷ []) ≤ 1
  at true c e = omega (arith, e, none_times k before (new (eqb-yes f.code (code_of k) c)))
  at false c e = omega (arith, e)

fields_once : (before fs : List Field) → AreFields before fs → AreOnce before → AreOnce (before ++ fs)
fields_once before [] h once = subst AreOnce (sym (append-nil before)) once
fields_once before (f ∷ fs) h once =
    subst AreOnce (append_assoc before (f ∷ []) fs) (fields_once (before ++ f ∷ []) fs h.1 (λ k. follows_once k before f (h.0.1 k) (once k)))

pub are_once : (fs : List Field) → AreFields [] fs → AreOnce fs
are_once fs h = fields_once [] fs h (λ k. omega arith)

fields_again : (before fs : List Field) → AllByRecursion IsField fs → ((k : HeaderField) → times (code_of k) before + times (code_of k) fs ≤ 1) → AreFields before fs
fields_again before [] all once = tt
fields_again before (f ∷ fs) all once = (
  (all.0, λ k e. times_none k before (alone k (subst (λ (c : ℕ). (f.code == c) ≡ true) e (same f.code)) (once k))),
  fields_again (before ++ f ∷ []) fs all.1 (λ k. subst (λ (n : ℕ). n ≤ 1) (sym (one_more k before fs f)) (once k)),
) where
  same : (n : ℕ) → (n == n) ≡ true
  same n = grind arith

  alone : (k : HeaderField) → (f.code == code_of k) ≡ true → times (code_of k) before + times (code_of k) (f ∷ fs) ≤ 1 → times (code_of k) before ≡ 0
  alone k e h = let g : times (code_of k) before + suc (times (code_of k) fs) ≤ 1 = rw e at h in omega arith

-- fields that are each one, and of which no known one stands twice
pub are_fields : (fs : List Field) → AllByRecursion IsField fs → AreOnce fs → AreFields [] fs
are_fields fs all once = fields_again [] fs all (λ k. omega (arith, once k))

pub all_insert : (f : Field) (gs : List Field) → IsField f → AllByRecursion IsField gs → AllByRecursion IsField (insert_field f gs)
all_insert f [] h all = (h, tt)
all_insert f (g ∷ gs) h all = at (le_or_above f.code g.code) (all_insert f gs h all.1) where
  at : (f.code ≤ g.code) ⊎ (g.code < f.code) → AllByRecursion IsField (insert_field f gs) → AllByRecursion IsField (insert_field f (g ∷ gs))
  at (inl k) ih = rw (leb_true f.code g.code k) (h, all)
  at (inr k) ih = rw (leb_false f.code g.code k) (all.0, ih)

pub all_by_code : (fs : List Field) → AllByRecursion IsField fs → AllByRecursion IsField (by_code fs)
all_by_code [] all = tt
all_by_code (f ∷ fs) all = all_insert f (by_code fs) all.0 (all_by_code fs all.1)
