-- Reading elements and fields one after the other, as a loop does.
use Rattle.std.proofs.Common.{◌≡◌, ℕ, zero, suc, ◌+◌, ◌≤◌, ◌<◌, Bool, true, false, eqb, List, [], ◌∷◌, ◌++◌, length, get_or, drop, drop-cons, Result, Ok, Err, refl, sym, ap, ◌∙◌, arith}
use Rattle.std.proofs.lemmas.Bool.Decides.{nat_tests}
use Rattle.marshal_core.specs.declared.fault.MarshalFault.{MarshalFault}
use Rattle.marshal_core.specs.declared.fault.MarshalFault.TheVariants.{ArrayLength}
use Rattle.marshal_core.specs.Types.{Ty, types}
use Rattle.marshal_core.specs.Values.{Val, Vals, no_values, more_values, values}
use Rattle.marshal_core.specs.Faults.{◌>>=◌, Fails}
use Rattle.marshal_core.specs.Reading.{Field, Reader, elements_at, fields_at}

abbrev pub before : List Val → Vals → Vals
before [] vs = vs
before (v ∷ front) vs = more_values v (before front vs)

before_push : (front : List Val) (v : Val) (vs : Vals) → before (front ++ v ∷ []) vs ≡ before front (more_values v vs)
before_push [] v vs = refl
before_push (u ∷ front) v vs = ap (more_values u) (before_push front v vs)

before_none : (front : List Val) → before front no_values ≡ values front
before_none [] = refl
before_none (u ∷ front) = ap (more_values u) (before_none front)

pub some_left : (b : Bool) (n : ℕ) → b ≡ eqb n 0 → b ≡ false → 0 < n
some_left b n e h = grind (arith, nat_tests)

pub none_left : (b : Bool) (n : ℕ) → b ≡ eqb n 0 → b ≡ true → n ≡ 0
none_left b n e h = grind (arith, nat_tests)

pub drop_one : {A : Type 0} (xs : List A) (i : ℕ) (x : A) → i < length xs → x ≡ get_or xs i x → drop i xs ≡ x ∷ drop (i + 1) xs
drop_one xs i x lt e = let k : i + 1 ≡ suc i = omega arith in drop-cons xs i x lt ∙ rw (k, ← e) refl

-- ---- elements

abbrev pub with_elements : List Val → Result Vals MarshalFault → Result Vals MarshalFault
with_elements front read = read >>= λ vs. Ok (before front vs)

abbrev pub ElementsSoFar : Reader → Ty → List Val → ℕ → List ℕ → Result Vals MarshalFault → Type 0
ElementsSoFar read t front at rest total = (k : ℕ) × (length rest ≤ k) × (with_elements front (elements_at read t k at rest) ≡ total)

same_elements : (r : Result Vals MarshalFault) → with_elements [] r ≡ r
same_elements (Ok x) = refl
same_elements (Err e) = refl

pub elements_begin : (read : Reader) (t : Ty) (at : ℕ) (bytes : List ℕ) → ElementsSoFar read t [] at bytes (elements_at read t (length bytes) at bytes)
elements_begin read t at bytes = (length bytes, omega arith, same_elements (elements_at read t (length bytes) at bytes))

regroup : (front : List Val) (v : Val) (read : Result Vals MarshalFault) → with_elements front (read >>= λ vs. Ok (more_values v vs)) ≡ with_elements (front ++ v ∷ []) read
regroup front v (Ok x) = ap (λ (vs : Vals). Ok vs) (sym (before_push front v x))
regroup front v (Err f) = refl

pub elements_next : (read : Reader) (t : Ty) (front : List Val) (at : ℕ) (rest : List ℕ) (v : Val) (place : ℕ) (after : List ℕ) (total : Result Vals MarshalFault) → 0 < length rest → read ArrayLength t at rest ≡ Ok (v, place, after) → length after < length rest
    → ElementsSoFar read t front at rest total → ElementsSoFar read t (front ++ v ∷ []) place after total
unfolding elements_at
elements_next read t front at [] v place after total some e lt so_far = absurd (omega arith)
elements_next read t front at (b ∷ rest) v place after total some e lt (zero, le, so_far) = absurd (omega arith)
elements_next read t front at (b ∷ rest) v place after total some e lt (suc k, le, so_far) =
    let one : elements_at read t (suc k) at (b ∷ rest) ≡ (elements_at read t k place after >>= λ vs. Ok (more_values v vs)) = rw e refl in
    (k, omega arith, sym (regroup front v (elements_at read t k place after)) ∙ ap (with_elements front) (sym one) ∙ so_far)

pub elements_fail : (err : MarshalFault) (read : Reader) (t : Ty) (front : List Val) (at : ℕ) (rest : List ℕ) (total : Result Vals MarshalFault) → 0 < length rest → Fails err (read ArrayLength t at rest)
    → ElementsSoFar read t front at rest total → Fails err total
unfolding elements_at
elements_fail err read t front at [] total some e so_far = absurd (omega arith)
elements_fail err read t front at (b ∷ rest) total some e (zero, le, so_far) = absurd (omega arith)
elements_fail err read t front at (b ∷ rest) total some e (suc k, le, so_far) = λ known.
    let one : elements_at read t (suc k) at (b ∷ rest) ≡ Err err = rw (e known) refl in
    sym so_far ∙ ap (with_elements front) one

pub elements_end : (read : Reader) (t : Ty) (front : List Val) (at : ℕ) (rest : List ℕ) (total : Result Vals MarshalFault) → length rest ≤ 0 → ElementsSoFar read t front at rest total → total ≡ Ok (values front)
unfolding elements_at
elements_end read t front at (b ∷ rest) total none so_far = absurd (omega arith)
elements_end read t front at [] total none (zero, le, so_far) = sym so_far ∙ ap (λ (vs : Vals). Ok vs) (before_none front)
elements_end read t front at [] total none (suc k, le, so_far) = sym so_far ∙ ap (λ (vs : Vals). Ok vs) (before_none front)

-- ---- fields

abbrev pub with_fields : List Val → Field Vals → Field Vals
with_fields front read = read >>= λ vs. Ok (before front vs.0, vs.1, vs.2)

abbrev pub FieldsSoFar : Reader → MarshalFault → List Ty → List Val → ℕ → List ℕ → Field Vals → Type 0
FieldsSoFar read short ts front at rest total = with_fields front (fields_at read short (types ts) at rest) ≡ total

pub fields_begin : (r : Field Vals) → with_fields [] r ≡ r
fields_begin (Ok x) = refl
fields_begin (Err e) = refl

regroup_fields : (front : List Val) (v : Val) (read : Field Vals) → with_fields front (read >>= λ vs. Ok (more_values v vs.0, vs.1, vs.2)) ≡ with_fields (front ++ v ∷ []) read
regroup_fields front v (Ok x) = ap (λ (vs : Vals). Ok (vs, x.1, x.2)) (sym (before_push front v x.0))
regroup_fields front v (Err f) = refl

pub fields_next : (read : Reader) (short : MarshalFault) (t : Ty) (ts : List Ty) (front : List Val) (at : ℕ) (rest : List ℕ) (v : Val) (place : ℕ) (after : List ℕ) (total : Field Vals) → read short t at rest ≡ Ok (v, place, after)
    → FieldsSoFar read short (t ∷ ts) front at rest total → FieldsSoFar read short ts (front ++ v ∷ []) place after total
unfolding fields_at
fields_next read short t ts front at rest v place after total e so_far =
    let one : fields_at read short (types (t ∷ ts)) at rest ≡ (fields_at read short (types ts) place after >>= λ vs. Ok (more_values v vs.0, vs.1, vs.2)) = rw e refl in
    sym (regroup_fields front v (fields_at read short (types ts) place after)) ∙ ap (with_fields front) (sym one) ∙ so_far

pub fields_fail : (err : MarshalFault) (read : Reader) (short : MarshalFault) (t : Ty) (ts : List Ty) (front : List Val) (at : ℕ) (rest : List ℕ) (total : Field Vals) → Fails err (read short t at rest)
    → FieldsSoFar read short (t ∷ ts) front at rest total → Fails err total
unfolding fields_at
fields_fail err read short t ts front at rest total e so_far = λ known.
    let one : fields_at read short (types (t ∷ ts)) at rest ≡ Err err = rw (e known) refl in
    sym so_far ∙ ap (with_fields front) one

pub fields_end : (read : Reader) (short : MarshalFault) (front : List Val) (at : ℕ) (rest : List ℕ) (total : Field Vals) → FieldsSoFar read short [] front at rest total → total ≡ Ok (values front, at, rest)
unfolding fields_at
fields_end read short front at rest total so_far = sym so_far ∙ ap (λ (vs : Vals). Ok (vs, at, rest)) (before_none front)
