-- Reading types one after the other, as a loop does.
use Rattle.std.proofs.Common.{◌≡◌, ℕ, zero, suc, ◌≤◌, ◌<◌, Bool, true, false, cond, eqb, List, [], ◌∷◌, ◌++◌, length, Ok, Err, refl, sym, ap, ◌∙◌, arith}
use Rattle.std.specs.Prelude.{◌&&◌}
use Rattle.std.proofs.lemmas.Bool.Decides.{nat_tests}
use Rattle.marshal_core.specs.declared.fault.MarshalFault.{MarshalFault}
use Rattle.marshal_core.specs.declared.fault.MarshalFault.TheVariants.{Signature}
use Rattle.marshal_core.specs.Types.{Ty, struct, Tys, no_types, more_types, types}
use Rattle.marshal_core.specs.Faults.{◌>>=◌, Fails}
use Rattle.marshal_core.specs.Signatures.{Parsed, types_at, struct_of, struct_end}

abbrev pub OneType : Type 0
OneType = List ℕ → Parsed Ty

abbrev pub onto : List Ty → Tys → Tys
onto [] ts = ts
onto (t ∷ front) ts = more_types t (onto front ts)

onto_push : (front : List Ty) (t : Ty) (ts : Tys) → onto (front ++ t ∷ []) ts ≡ onto front (more_types t ts)
onto_push [] t ts = refl
onto_push (u ∷ front) t ts = ap (more_types u) (onto_push front t ts)

onto_none : (front : List Ty) → onto front no_types ≡ types front
onto_none [] = refl
onto_none (u ∷ front) = ap (more_types u) (onto_none front)

-- what was read before, and what is still read
abbrev pub with_types : List Ty → Parsed Tys → Parsed Tys
with_types front read = read >>= λ ts. Ok (onto front ts.0, ts.1)

abbrev pub TypesSoFar : Bool → OneType → List Ty → List ℕ → Parsed Tys → Type 0
TypesSoFar inside read front rest total = (k : ℕ) × (length rest ≤ k) × (with_types front (types_at inside read k rest) ≡ total)

pub types_begin : (inside : Bool) (read : OneType) (text : List ℕ) → TypesSoFar inside read [] text (types_at inside read (length text) text)
types_begin inside read text = (length text, omega arith, same (types_at inside read (length text) text))
  where
    same : (r : Parsed Tys) → with_types [] r ≡ r
    same (Ok x) = refl
    same (Err e) = refl

regroup : (front : List Ty) (t : Ty) (read : Parsed Tys) → with_types front (read >>= λ ts. Ok (more_types t ts.0, ts.1)) ≡ with_types (front ++ t ∷ []) read
regroup front t (Ok x) = ap (λ (ts : Tys). Ok (ts, x.1)) (sym (onto_push front t x.0))
regroup front t (Err f) = refl

-- no struct ends here
abbrev pub IsFree : Bool → ℕ → Type 0
IsFree inside c = (inside && eqb c struct_end) ≡ false

pub free_outside : (inside : Bool) (c : ℕ) → inside ≡ false → IsFree inside c
free_outside inside c h = rw h refl

pub free_before : (inside : Bool) (c : ℕ) → (c ≡ struct_end → ⊥) → IsFree inside c
free_before true c h = grind (arith, nat_tests)
free_before false c h = refl

pub types_next : (inside : Bool) (read : OneType) (front : List Ty) (c : ℕ) (rest cs after : List ℕ) (t : Ty) (total : Parsed Tys) → rest ≡ c ∷ cs → IsFree inside c → read rest ≡ Ok (t, after) → length after < length rest
    → TypesSoFar inside read front rest total → TypesSoFar inside read (front ++ t ∷ []) after total
unfolding types_at
types_next inside read front c rest cs after t total r h e lt (zero, le, so_far) = absurd (omega (arith, ap length r))
types_next inside read front c rest cs after t total r h e lt (suc k, le, so_far) =
    let e2 : read (c ∷ cs) ≡ Ok (t, after) = rw (← r) e in
    let one : types_at inside read (suc k) (c ∷ cs) ≡ (types_at inside read k after >>= λ ts. Ok (more_types t ts.0, ts.1)) = rw (h, e2) refl in
    (k, omega arith, sym (regroup front t (types_at inside read k after)) ∙ ap (with_types front) (sym one) ∙ ap (λ (b : List ℕ). with_types front (types_at inside read (suc k) b)) (sym r) ∙ so_far)

pub types_fail : (err : MarshalFault) (inside : Bool) (read : OneType) (front : List Ty) (c : ℕ) (rest cs : List ℕ) (total : Parsed Tys) → rest ≡ c ∷ cs → IsFree inside c → Fails err (read rest)
    → TypesSoFar inside read front rest total → Fails err total
unfolding types_at
types_fail err inside read front c rest cs total r h e (zero, le, so_far) = absurd (omega (arith, ap length r))
types_fail err inside read front c rest cs total r h e (suc k, le, so_far) = λ known.
    let e2 : read (c ∷ cs) ≡ Err err = rw (← r) (e known) in
    let one : types_at inside read (suc k) (c ∷ cs) ≡ Err err = rw (h, e2) refl in
    sym so_far ∙ ap (λ (b : List ℕ). with_types front (types_at inside read (suc k) b)) r ∙ ap (with_types front) one

-- a struct ends
pub types_close : (inside : Bool) (read : OneType) (front : List Ty) (c : ℕ) (rest cs : List ℕ) (total : Parsed Tys) → rest ≡ c ∷ cs → inside ≡ true → c ≡ struct_end → TypesSoFar inside read front rest total → total ≡ Ok (types front, cs)
unfolding types_at
types_close inside read front c rest cs total r i h (zero, le, so_far) = absurd (omega (arith, ap length r))
types_close inside read front c rest cs total r i h (suc k, le, so_far) =
    let one : types_at inside read (suc k) rest ≡ Ok (no_types, cs) = rw (r, i, h) refl in
    sym so_far ∙ ap (with_types front) one ∙ ap (λ (ts : Tys). Ok (ts, cs)) (onto_none front)

text_ends : (inside : Bool) (read : OneType) (k : ℕ) (rest : List ℕ) → rest ≡ [] → types_at inside read k rest ≡ cond inside (Err Signature) (Ok (no_types, []))
unfolding types_at
text_ends inside read zero rest r = rw r refl
text_ends inside read (suc k) rest r = rw r refl

-- the text ends within a struct
pub types_open : (inside : Bool) (read : OneType) (front : List Ty) (rest : List ℕ) (total : Parsed Tys) → rest ≡ [] → inside ≡ true → TypesSoFar inside read front rest total → total ≡ Err Signature
types_open inside read front rest total r i (k, le, so_far) =
    let one : types_at inside read k rest ≡ Err Signature = text_ends inside read k rest r ∙ rw i refl in
    sym so_far ∙ ap (with_types front) one

-- the text ends
pub types_end : (inside : Bool) (read : OneType) (front : List Ty) (rest : List ℕ) (total : Parsed Tys) → rest ≡ [] → inside ≡ false → TypesSoFar inside read front rest total → total ≡ Ok (types front, rest)
types_end inside read front rest total r i (k, le, so_far) =
    let one : types_at inside read k rest ≡ Ok (no_types, rest) = text_ends inside read k rest r ∙ rw (i, r) refl in
    sym so_far ∙ ap (with_types front) one ∙ ap (λ (ts : Tys). Ok (ts, rest)) (onto_none front)

pub made_struct : (ts : List Ty) (after : List ℕ) → 0 < length ts → struct_of (types ts, after) ≡ Ok (struct (types ts), after)
made_struct [] after h = absurd (omega arith)
made_struct (t ∷ ts) after h = refl

pub made_none : (ts : List Ty) (after : List ℕ) → length ts ≡ 0 → struct_of (types ts, after) ≡ Err Signature
made_none [] after h = refl
made_none (t ∷ ts) after h = absurd (omega arith)
