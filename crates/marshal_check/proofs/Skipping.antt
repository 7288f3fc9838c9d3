-- Reading that keeps no values.
use Rattle.std.proofs.Common.{◌≡◌, ℕ, zero, suc, ◌<◌, Bool, true, false, eqb, List, [], ◌∷◌, ◌++◌, length, get_or, drop, Option, Some, None, Result, Ok, Err, refl, sym, ap, ◌∙◌, append_assoc, append-nil, arith}
use Rattle.marshal_core.specs.declared.data_type.BasicType.{BasicType}
use Rattle.marshal_core.specs.declared.data_type.BasicType.TheVariants as of_type
use Rattle.marshal_core.specs.declared.fault.MarshalFault.{MarshalFault}
use Rattle.marshal_core.specs.declared.fault.MarshalFault.TheVariants.{ArrayLength, Depth, Signature}
use Rattle.marshal_core.specs.declared.order.Order.{Order}
use Rattle.marshal_core.specs.Types.{Ty, basic, variant, array, entry, struct, Tys, no_types, more_types}
use Rattle.marshal_core.specs.Values.{BasicVal, a_basic, Val, a_variant, an_array, an_entry, a_struct, Vals, no_values, more_values}
use Rattle.marshal_core.specs.Faults.{◌>>=◌}
use Rattle.marshal_core.specs.Signatures.{basic_code, basic_types, with_code, code, codes, struct_end, entry_end}
use Rattle.marshal_core.specs.Spelling.{alignment}
use Rattle.marshal_core.specs.Reading.{Field, Reader, as_a, padding_at, basic_at, variant_type_at, variant_at, inside_at, array_at, entry_at, struct_at, struct_fields_at, elements_at, fields_at, value_at}
use Rattle.marshal_core.proofs.Results.{ok_is}
use Rattle.marshal.proofs.Loops.{ElementsSoFar, with_elements}
use Rattle.marshal.proofs.Layers.{value_basic, deep_variant, deep_array, deep_entry, deep_struct}
use Rattle.marshal_check.specs.Checking.{Skips, is_end}

pub as_skips : {X A B : Type 0} (view : X → ℕ × List ℕ) (make : A → B) (r : Result X MarshalFault) (read : Field A) → Skips view r read → Skips view r (as_a make read)
as_skips view make (Ok x) read (a, e) = (make a, rw e refl)
as_skips view make (Err f) read e = rw e refl

-- ---- a type by the first letter of its text

abbrev first : List ℕ → ℕ
first bytes = get_or bytes 0 0

again : (b : BasicType) → with_code (basic_code b) basic_types ≡ Some b
again of_type.Byte = refl
again of_type.Boolean = refl
again of_type.Int16 = refl
again of_type.Uint16 = refl
again of_type.Int32 = refl
again of_type.Uint32 = refl
again of_type.Int64 = refl
again of_type.Uint64 = refl
again of_type.Double = refl
again of_type.String = refl
again of_type.ObjectPath = refl
again of_type.Signature = refl

abbrev some_type : BasicType → Option BasicType
some_type b = Some b

abbrev no_type : Option BasicType
no_type = None

same_type : (a b : BasicType) → some_type a ≡ some_type b → a ≡ b
same_type a b e = cc

not_some : (b : BasicType) → no_type ≡ some_type b → ⊥
not_some b e = absurd cc

pub is_basic : (t : Ty) (tail of inner : List ℕ) (c : ℕ) (b : BasicType) → of ≡ code t ++ tail → of ≡ c ∷ inner → with_code c basic_types ≡ Some b → t ≡ basic b
is_basic (basic a) tail of inner c b e f h =
    let k : c ≡ basic_code a = ap first (sym f ∙ e) in
    ap basic (same_type a b (sym (again a) ∙ ap (λ (n : ℕ). with_code n basic_types) (sym k) ∙ h))
is_basic variant tail of inner c b e f h = let k : c ≡ 118 = ap first (sym f ∙ e) in absurd (not_some b (ap (λ (n : ℕ). with_code n basic_types) (sym k) ∙ h))
is_basic (array t) tail of inner c b e f h = let k : c ≡ 97 = ap first (sym f ∙ e) in absurd (not_some b (ap (λ (n : ℕ). with_code n basic_types) (sym k) ∙ h))
is_basic (entry a t) tail of inner c b e f h = let k : c ≡ 123 = ap first (sym f ∙ e) in absurd (not_some b (ap (λ (n : ℕ). with_code n basic_types) (sym k) ∙ h))
is_basic (struct ts) tail of inner c b e f h = let k : c ≡ 40 = ap first (sym f ∙ e) in absurd (not_some b (ap (λ (n : ℕ). with_code n basic_types) (sym k) ∙ h))

not_basic : (b : BasicType) (tail inner : List ℕ) (c : ℕ) → c ∷ inner ≡ basic_code b ∷ tail → with_code c basic_types ≡ None → ⊥
not_basic b tail inner c e h =
    let k : c ≡ basic_code b = ap first e in
    not_some b (sym h ∙ ap (λ (n : ℕ). with_code n basic_types) k ∙ again b)

pub not_empty : (t : Ty) (tail of : List ℕ) → of ≡ code t ++ tail → length of ≡ 0 → ⊥
not_empty (basic b) tail of e h = omega (arith, ap length e, h)
not_empty variant tail of e h = omega (arith, ap length e, h)
not_empty (array t) tail of e h = omega (arith, ap length e, h)
not_empty (entry k t) tail of e h = omega (arith, ap length e, h)
not_empty (struct ts) tail of e h = omega (arith, ap length e, h)

-- ---- containers by their letter

pub too_deep : (t : Ty) (tail inner : List ℕ) (c d : ℕ) (order : Order) (short : MarshalFault) (at : ℕ) (bytes : List ℕ) → c ∷ inner ≡ code t ++ tail → with_code c basic_types ≡ None → d ≡ 0 → value_at d order short t at bytes ≡ Err Depth
too_deep (basic b) tail inner c d order short at bytes e h z = absurd (not_basic b tail inner c e h)
too_deep variant tail inner c d order short at bytes e h z = deep_variant d order short at bytes z
too_deep (array t) tail inner c d order short at bytes e h z = deep_array d order short t at bytes z
too_deep (entry k t) tail inner c d order short at bytes e h z = deep_entry d order short k t at bytes z
too_deep (struct ts) tail inner c d order short at bytes e h z = deep_struct d order short ts at bytes z

pub is_variant : (t : Ty) (tail inner : List ℕ) (c : ℕ) → c ∷ inner ≡ code t ++ tail → with_code c basic_types ≡ None → c ≡ 118 → t ≡ variant
is_variant variant tail inner c e h k = refl
is_variant (basic b) tail inner c e h k = absurd (not_basic b tail inner c e h)
is_variant (array t) tail inner c e h k = absurd (omega (arith, ap first e))
is_variant (entry b t) tail inner c e h k = absurd (omega (arith, ap first e))
is_variant (struct ts) tail inner c e h k = absurd (omega (arith, ap first e))

pub is_array : (t : Ty) (tail inner : List ℕ) (c : ℕ) → c ∷ inner ≡ code t ++ tail → with_code c basic_types ≡ None → c ≡ 97 → (u : Ty) × (t ≡ array u) × (inner ≡ code u ++ tail)
is_array (array u) tail inner c e h k = (u, refl, ap (drop 1) e)
is_array (basic b) tail inner c e h k = absurd (not_basic b tail inner c e h)
is_array variant tail inner c e h k = absurd (omega (arith, ap first e))
is_array (entry b t) tail inner c e h k = absurd (omega (arith, ap first e))
is_array (struct ts) tail inner c e h k = absurd (omega (arith, ap first e))

abbrev IsEntry : Ty → List ℕ → List ℕ → Type 0
IsEntry t tail inner = (b : BasicType) × (u : Ty) × (t ≡ entry b u) × (inner ≡ basic_code b ∷ (code u ++ entry_end ∷ tail))

pub is_entry : (t : Ty) (tail inner : List ℕ) (c : ℕ) → c ∷ inner ≡ code t ++ tail → with_code c basic_types ≡ None → c ≡ 123 → IsEntry t tail inner
is_entry (entry b u) tail inner c e h k = (b, u, refl, ap (drop 1) e ∙ ap (λ (cs : List ℕ). basic_code b ∷ cs) (append_assoc (code u) (entry_end ∷ []) tail))
is_entry (basic b) tail inner c e h k = absurd (not_basic b tail inner c e h)
is_entry variant tail inner c e h k = absurd (omega (arith, ap first e))
is_entry (array t) tail inner c e h k = absurd (omega (arith, ap first e))
is_entry (struct ts) tail inner c e h k = absurd (omega (arith, ap first e))

pub is_struct : (t : Ty) (tail inner : List ℕ) (c : ℕ) → c ∷ inner ≡ code t ++ tail → with_code c basic_types ≡ None → (c ≡ 118 → ⊥) → (c ≡ 97 → ⊥) → (c ≡ 123 → ⊥) → (us : Tys) × (t ≡ struct us) × (inner ≡ codes us ++ struct_end ∷ tail)
is_struct (struct us) tail inner c e h v a b = (us, refl, ap (drop 1) e ∙ append_assoc (codes us) (struct_end ∷ []) tail)
is_struct (basic b) tail inner c e h v a x = absurd (not_basic b tail inner c e h)
is_struct variant tail inner c e h v a b = absurd (v (ap first e))
is_struct (array t) tail inner c e h v a b = absurd (a (ap first e))
is_struct (entry k t) tail inner c e h v a b = absurd (b (ap first e))

-- ---- variants

pub variant_fault : (read : Reader) (short x : MarshalFault) (at : ℕ) (bytes : List ℕ) → variant_type_at short at bytes ≡ Err x → variant_at read short at bytes ≡ Err x
unfolding variant_at
variant_fault read short x at bytes e = rw e refl

pub variant_skips : {X : Type 0} (view : X → ℕ × List ℕ) (r : Result X MarshalFault) (read : Reader) (short : MarshalFault) (at p : ℕ) (bytes of rest : List ℕ) (t : Ty) → variant_type_at short at bytes ≡ Ok (t, p, rest) → of ≡ code t
    → ((u : Ty) (tail : List ℕ) → of ≡ code u ++ tail → Skips view r (read short u p rest)) → Skips view r (variant_at read short at bytes)
unfolding variant_at
variant_skips view (Ok x) read short at p bytes of rest t e k reads =
    let v = reads t [] (k ∙ sym (append-nil (code t))) in
    (a_variant v.0, rw (e, v.1) refl)
variant_skips view (Err x) read short at p bytes of rest t e k reads = rw (e, reads t [] (k ∙ sym (append-nil (code t)))) refl

-- ---- arrays

pub array_fault : (read : Reader) (order : Order) (short x : MarshalFault) (t : Ty) (align at : ℕ) (bytes : List ℕ) → align ≡ alignment t → inside_at order short align at bytes ≡ Err x → array_at read order short t at bytes ≡ Err x
unfolding array_at
array_fault read order short x t align at bytes a e =
    let e2 : inside_at order short (alignment t) at bytes ≡ Err x = ap (λ (k : ℕ). inside_at order short k at bytes) (sym a) ∙ e in
    rw e2 refl

pub array_element_fault : (read : Reader) (order : Order) (short x : MarshalFault) (t : Ty) (align at p q : ℕ) (bytes inner rest : List ℕ) → align ≡ alignment t → inside_at order short align at bytes ≡ Ok ((p, inner), q, rest)
    → elements_at read t (length inner) p inner ≡ Err x → array_at read order short t at bytes ≡ Err x
unfolding array_at
array_element_fault read order short x t align at p q bytes inner rest a e h =
    let e2 : inside_at order short (alignment t) at bytes ≡ Ok ((p, inner), q, rest) = ap (λ (k : ℕ). inside_at order short k at bytes) (sym a) ∙ e in
    rw (e2, h) refl

pub array_done : (read : Reader) (order : Order) (short : MarshalFault) (t : Ty) (align at p q : ℕ) (bytes inner rest : List ℕ) → align ≡ alignment t → inside_at order short align at bytes ≡ Ok ((p, inner), q, rest)
    → ((vs : Vals) × (elements_at read t (length inner) p inner ≡ Ok vs)) → (v : Val) × (array_at read order short t at bytes ≡ Ok (v, q, rest))
unfolding array_at
array_done read order short t align at p q bytes inner rest a e (vs, h) =
    let e2 : inside_at order short (alignment t) at bytes ≡ Ok ((p, inner), q, rest) = ap (λ (k : ℕ). inside_at order short k at bytes) (sym a) ∙ e in
    (an_array t vs, rw (e2, h) refl)

-- ---- elements

pub elements_told : (err : MarshalFault) (read : Reader) (t : Ty) (front : List Val) (at : ℕ) (rest : List ℕ) (total : Result Vals MarshalFault) → 0 < length rest → read ArrayLength t at rest ≡ Err err
    → ElementsSoFar read t front at rest total → total ≡ Err err
unfolding elements_at
elements_told err read t front at [] total some e so_far = absurd (omega arith)
elements_told err read t front at (b ∷ rest) total some e (zero, le, so_far) = absurd (omega arith)
elements_told err read t front at (b ∷ rest) total some e (suc k, le, so_far) =
    let one : elements_at read t (suc k) at (b ∷ rest) ≡ Err err = rw e refl in
    sym so_far ∙ ap (with_elements front) one

-- ---- dict entries

abbrev ok_field : {A : Type 0} → A → ℕ → List ℕ → Field A
ok_field a p l = Ok (a, p, l)

abbrev fault_field : {A : Type 0} → MarshalFault → Field A
fault_field x = Err x

made_from : (r : Field BasicVal) (v : Val) (p : ℕ) (l : List ℕ) → as_a a_basic r ≡ Ok (v, p, l) → (b : BasicVal) × (r ≡ Ok (b, p, l))
made_from (Ok x) v p l e =
    let same = ok_is (a_basic x.0, x.1, x.2) (v, p, l) e in
    (x.0, ap (λ (y : Val × ℕ × List ℕ). ok_field x.0 y.1 y.2) same)
made_from (Err f) v p l e = absurd cc

told_from : (r : Field BasicVal) (x : MarshalFault) → as_a a_basic r ≡ Err x → r ≡ Err x
told_from (Ok y) x e = absurd cc
told_from (Err f) x e = cc

pub entry_gap : (read : Reader) (order : Order) (short x : MarshalFault) (k : BasicType) (t : Ty) (at : ℕ) (bytes : List ℕ) → padding_at 8 short at bytes ≡ Err x → entry_at read order short k t at bytes ≡ Err x
unfolding entry_at
entry_gap read order short x k t at bytes e = rw e refl

pub entry_key : (d : ℕ) (order : Order) (short x : MarshalFault) (k : BasicType) (t : Ty) (at p : ℕ) (bytes rest : List ℕ) → padding_at 8 short at bytes ≡ Ok (p, rest) → value_at d order short (basic k) p rest ≡ Err x → entry_at (value_at d order) order short k t at bytes ≡ Err x
unfolding entry_at
entry_key d order short x k t at p bytes rest e h =
    let f : basic_at order short k p rest ≡ Err x = told_from (basic_at order short k p rest) x (sym (value_basic d order short k p rest) ∙ h) in
    rw (e, f) refl

entry_read : {X : Type 0} (view : X → ℕ × List ℕ) (r : Result X MarshalFault) (read : Reader) (order : Order) (short : MarshalFault) (k : BasicType) (t : Ty) (at p q : ℕ) (bytes rest left : List ℕ) (b : BasicVal) → padding_at 8 short at bytes ≡ Ok (p, rest) → basic_at order short k p rest ≡ Ok (b, q, left)
    → Skips view r (read short t q left) → Skips view r (entry_at read order short k t at bytes)
unfolding entry_at
entry_read view (Ok x) read order short k t at p q bytes rest left b e f (w, g) = (an_entry b w, rw (e, f, g) refl)
entry_read view (Err x) read order short k t at p q bytes rest left b e f g = rw (e, f, g) refl

pub entry_skips : {X : Type 0} (view : X → ℕ × List ℕ) (r : Result X MarshalFault) (d : ℕ) (order : Order) (short : MarshalFault) (k : BasicType) (t : Ty) (at p q : ℕ) (bytes rest left : List ℕ) (v : Val) → padding_at 8 short at bytes ≡ Ok (p, rest) → value_at d order short (basic k) p rest ≡ Ok (v, q, left)
    → Skips view r (value_at d order short t q left) → Skips view r (entry_at (value_at d order) order short k t at bytes)
entry_skips view r d order short k t at p q bytes rest left v e h g =
    let f = made_from (basic_at order short k p rest) v q left (sym (value_basic d order short k p rest) ∙ h) in
    entry_read view r (value_at d order) order short k t at p q bytes rest left f.0 e f.1 g

-- ---- fields, along the texts of their types

basic_goes_on : (b : BasicType) → eqb (basic_code b) struct_end ≡ false
basic_goes_on of_type.Byte = refl
basic_goes_on of_type.Boolean = refl
basic_goes_on of_type.Int16 = refl
basic_goes_on of_type.Uint16 = refl
basic_goes_on of_type.Int32 = refl
basic_goes_on of_type.Uint32 = refl
basic_goes_on of_type.Int64 = refl
basic_goes_on of_type.Uint64 = refl
basic_goes_on of_type.Double = refl
basic_goes_on of_type.String = refl
basic_goes_on of_type.ObjectPath = refl
basic_goes_on of_type.Signature = refl

goes_on : (t : Ty) (tail : List ℕ) → is_end (code t ++ tail) ≡ false
goes_on (basic b) tail = basic_goes_on b
goes_on variant tail = refl
goes_on (array t) tail = refl
goes_on (entry k t) tail = refl
goes_on (struct ts) tail = refl

false_true : (b : Bool) → b ≡ false → b ≡ true → ⊥
false_true b e f = absurd cc

-- What is still read decides what all is: some values, or the first fault.
abbrev Decides : Field Vals → Field Vals → Type 0
Decides later all = ((vs : Vals) (p : ℕ) (left : List ℕ) → later ≡ Ok (vs, p, left) → (ws : Vals) × (all ≡ Ok (ws, p, left))) × ((e : MarshalFault) → later ≡ Err e → all ≡ Err e)

abbrev pub TextsSoFar : Reader → MarshalFault → List ℕ → List ℕ → ℕ → List ℕ → Field Vals → Type 0
TextsSoFar read short tail of at rest total = (us : Tys) × (of ≡ codes us ++ tail) × Decides (fields_at read short us at rest) total

pub texts_begin : (read : Reader) (short : MarshalFault) (tail of : List ℕ) (ts : Tys) (at : ℕ) (rest : List ℕ) → of ≡ codes ts ++ tail → TextsSoFar read short tail of at rest (fields_at read short ts at rest)
texts_begin read short tail of ts at rest e = (ts, e, ((λ vs p left h. (vs, h)), (λ x h. h)))

pub texts_next : (read : Reader) (short : MarshalFault) (tail of after : List ℕ) (at place : ℕ) (rest left : List ℕ) (total : Field Vals) → TextsSoFar read short tail of at rest total → is_end of ≡ false → is_end tail ≡ true
    → ((t : Ty) (others : List ℕ) → of ≡ code t ++ others → after ≡ others)
    → ((t : Ty) (others : List ℕ) → of ≡ code t ++ others → (v : Val) × (read short t at rest ≡ Ok (v, place, left))) → TextsSoFar read short tail after place left total
unfolding fields_at
texts_next read short tail of after at place rest left total (no_types, e, d) some last follows reads = absurd (false_true (is_end of) some (ap is_end e ∙ last))
texts_next read short tail of after at place rest left total (more_types t us, e, d) some last follows reads =
    let g : of ≡ code t ++ (codes us ++ tail) = e ∙ append_assoc (code t) (codes us) tail in
    let v = reads t (codes us ++ tail) g in
    let one : fields_at read short (more_types t us) at rest ≡ (fields_at read short us place left >>= λ vs. Ok (more_values v.0 vs.0, vs.1, vs.2)) = rw v.1 refl in
    (us, follows t (codes us ++ tail) g, ((λ vs p l h. d.0 (more_values v.0 vs) p l (one ∙ rw h refl)), (λ x h. d.1 x (one ∙ rw h refl))))

pub texts_told : (read : Reader) (short x : MarshalFault) (tail of : List ℕ) (at : ℕ) (rest : List ℕ) (total : Field Vals) → TextsSoFar read short tail of at rest total → is_end of ≡ false → is_end tail ≡ true
    → ((t : Ty) (others : List ℕ) → of ≡ code t ++ others → read short t at rest ≡ Err x) → total ≡ Err x
unfolding fields_at
texts_told read short x tail of at rest total (no_types, e, d) some last reads = absurd (false_true (is_end of) some (ap is_end e ∙ last))
texts_told read short x tail of at rest total (more_types t us, e, d) some last reads =
    let g : of ≡ code t ++ (codes us ++ tail) = e ∙ append_assoc (code t) (codes us) tail in
    let one : fields_at read short (more_types t us) at rest ≡ Err x = rw (reads t (codes us ++ tail) g) refl in
    d.1 x one

pub texts_end : (read : Reader) (short : MarshalFault) (tail of : List ℕ) (at : ℕ) (rest : List ℕ) (total : Field Vals) → TextsSoFar read short tail of at rest total → is_end of ≡ true → (vs : Vals) × (total ≡ Ok (vs, at, rest))
unfolding fields_at
texts_end read short tail of at rest total (no_types, e, d) last = d.0 no_values at rest refl
texts_end read short tail of at rest total (more_types t us, e, d) last =
    absurd (false_true (is_end of) (ap is_end (e ∙ append_assoc (code t) (codes us) tail) ∙ goes_on t (codes us ++ tail)) last)

-- ---- structs

pub struct_none : (read : Reader) (short : MarshalFault) (ts : Tys) (tail of : List ℕ) (at : ℕ) (bytes : List ℕ) → of ≡ codes ts ++ struct_end ∷ tail → is_end of ≡ true → struct_at read short ts at bytes ≡ Err Signature
unfolding struct_at
struct_none read short no_types tail of at bytes e h = refl
struct_none read short (more_types t ts) tail of at bytes e h =
    absurd (false_true (is_end of) (ap is_end (e ∙ append_assoc (code t) (codes ts) (struct_end ∷ tail)) ∙ goes_on t (codes ts ++ struct_end ∷ tail)) h)

struct_some : (read : Reader) (short : MarshalFault) (ts : Tys) (tail of : List ℕ) (at : ℕ) (bytes : List ℕ) → of ≡ codes ts ++ struct_end ∷ tail → is_end of ≡ false → struct_at read short ts at bytes ≡ struct_fields_at read short ts at bytes
unfolding struct_at
struct_some read short no_types tail of at bytes e h = absurd (false_true (is_end of) h (ap is_end e))
struct_some read short (more_types t ts) tail of at bytes e h = refl

pub struct_gap : (read : Reader) (short x : MarshalFault) (ts : Tys) (tail of : List ℕ) (at : ℕ) (bytes : List ℕ) → of ≡ codes ts ++ struct_end ∷ tail → is_end of ≡ false → padding_at 8 short at bytes ≡ Err x → struct_at read short ts at bytes ≡ Err x
unfolding struct_fields_at
struct_gap read short x ts tail of at bytes e h g = struct_some read short ts tail of at bytes e h ∙ rw g refl

pub struct_skips : {X : Type 0} (view : X → ℕ × List ℕ) (r : Result X MarshalFault) (read : Reader) (short : MarshalFault) (ts : Tys) (tail of : List ℕ) (at p : ℕ) (bytes rest : List ℕ) → of ≡ codes ts ++ struct_end ∷ tail → is_end of ≡ false
    → padding_at 8 short at bytes ≡ Ok (p, rest) → Skips view r (fields_at read short ts p rest) → Skips view r (struct_at read short ts at bytes)
unfolding struct_fields_at
struct_skips view (Ok x) read short ts tail of at p bytes rest e h g (vs, f) = (a_struct vs, struct_some read short ts tail of at bytes e h ∙ rw (g, f) refl)
struct_skips view (Err x) read short ts tail of at p bytes rest e h g f = struct_some read short ts tail of at bytes e h ∙ rw (g, f) refl
