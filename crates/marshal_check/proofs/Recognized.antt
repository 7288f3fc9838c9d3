-- Recognizing types one after the other, as a loop does.
use Rattle.std.proofs.Common.{◌≡◌, ℕ, zero, suc, Bool, true, false, List, [], ◌∷◌, ◌++◌, length, append-nil, Result, Ok, Err, refl, sym, ap, ◌∙◌, arith}
use Rattle.marshal_core.specs.declared.fault.MarshalFault.{MarshalFault}
use Rattle.marshal_core.specs.declared.fault.MarshalFault.TheVariants.{Signature}
use Rattle.marshal_core.specs.Types.{Ty, Tys, basic, struct, no_types, more_types}
use Rattle.marshal_core.specs.Faults.{◌>>=◌}
use Rattle.marshal_core.specs.Signatures.{Parsed, key_type_at, basic_type_at, types_at, struct_type_at, code, complete_type_at, alone, variant_type_of}
use Rattle.marshal_core.proofs.Results.{bind_ok, done, ok_is}
use Rattle.marshal_core.proofs.TypesTaken.{type_takes}
use Rattle.marshal_core.proofs.TypesLoop.{OneType, TypesSoFar, IsFree, with_types}
use Rattle.marshal_check.specs.Checking.{Leaves, is_end}

pub types_told : (err : MarshalFault) (inside : Bool) (read : OneType) (front : List Ty) (c : ℕ) (rest cs : List ℕ) (total : Parsed Tys) → rest ≡ c ∷ cs → IsFree inside c → read rest ≡ Err err
    → TypesSoFar inside read front rest total → total ≡ Err err
unfolding types_at
types_told err inside read front c rest cs total r h e (zero, le, so_far) = absurd (omega (arith, ap length r))
types_told err inside read front c rest cs total r h e (suc k, le, so_far) =
    let e2 : read (c ∷ cs) ≡ Err err = rw (← r) e in
    let one : types_at inside read (suc k) (c ∷ cs) ≡ Err err = rw (h, e2) refl in
    sym so_far ∙ ap (λ (b : List ℕ). with_types front (types_at inside read (suc k) b)) r ∙ ap (with_types front) one

-- ---- structs

pub no_struct : (read : OneType) (text : List ℕ) → is_end text ≡ true → struct_type_at read text ≡ Err Signature
unfolding struct_type_at types_at
no_struct read [] e = refl
no_struct read (c ∷ cs) e = rw e refl

no_more : (t : Ty) (ts : Tys) → more_types t ts ≡ no_types → ⊥
no_more t ts e = absurd cc

some_types : (read : OneType) (k c : ℕ) (cs rest : List ℕ) → is_end (c ∷ cs) ≡ false → types_at true read (suc k) (c ∷ cs) ≡ Ok (no_types, rest) → ⊥
unfolding types_at
some_types read k c cs rest e h =
    let one : types_at true read (suc k) (c ∷ cs) ≡ (read (c ∷ cs) >>= λ t. types_at true read k t.1 >>= λ ts. Ok (more_types t.0 ts.0, ts.1)) = rw e refl in
    let p = bind_ok (read (c ∷ cs)) (λ t. types_at true read k t.1 >>= λ ts. Ok (more_types t.0 ts.0, ts.1)) (no_types, rest) (sym one ∙ h) in
    let q = bind_ok (types_at true read k p.0.1) (λ ts. Ok (more_types p.0.0 ts.0, ts.1)) (no_types, rest) p.2 in
    let no : done (more_types p.0.0 q.0.0, q.0.1) ≡ done (no_types, rest) = q.2 in
    let same = ok_is (more_types p.0.0 q.0.0, q.0.1) (no_types, rest) no in
    no_more p.0.0 q.0.0 (ap (λ (x : Tys × List ℕ). x.0) same)

made : (read : OneType) (text : List ℕ) (ts : Tys) (rest : List ℕ) → is_end text ≡ false → types_at true read (length text) text ≡ Ok (ts, rest) → (t : Ty) × (struct_type_at read text ≡ Ok (t, rest))
unfolding struct_type_at
made read [] ts rest e h = absurd cc
made read (c ∷ cs) no_types rest e h = absurd (some_types read (length cs) c cs rest e h)
made read (c ∷ cs) (more_types t ts) rest e h = (struct (more_types t ts), rw h refl)

pub struct_leaves : {X : Type 0} (view : X → List ℕ) (r : Result X MarshalFault) (read : OneType) (text : List ℕ) → is_end text ≡ false → Leaves view r (types_at true read (length text) text) → Leaves view r (struct_type_at read text)
unfolding struct_type_at
struct_leaves view (Ok x) read text e (ts, h) = made read text ts (view x) e h
struct_leaves view (Err f) read text e h = rw h refl

-- ---- basic types

pub basic_leaves : {X : Type 0} (view : X → List ℕ) (r : Result X MarshalFault) (text : List ℕ) → Leaves view r (key_type_at text) → Leaves view r (basic_type_at text)
unfolding basic_type_at
basic_leaves view (Ok x) text (b, e) = (basic b, rw e refl)
basic_leaves view (Err f) text e = rw e refl

-- ---- the text of one type

only_type : (x : Ty × List ℕ) (t : Ty) → alone x ≡ Ok t → x ≡ (t, [])
only_type (u, []) t e = cc
only_type (u, c ∷ cs) t e = absurd cc

pub one_type_text : (text : List ℕ) (t : Ty) → variant_type_of text ≡ Ok t → text ≡ code t
unfolding variant_type_of
one_type_text text t e =
    let p = bind_ok (complete_type_at text) alone t e in
    let q = only_type p.0 t p.2 in
    (type_takes 65 32 32 text p.0 p.1).1 ∙ ap (λ (x : Ty × List ℕ). code x.0 ++ x.1) q ∙ append-nil (code t)
