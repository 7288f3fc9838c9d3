-- What arguments are shown as.
use Rattle.std.proofs.Common.{◌≡◌, ℕ, ◌-◌, ◌%◌, true, List, [], ◌∷◌, ◌++◌, length, get_or, Result, Ok, Err, refl, sym, ap, ◌∙◌, arith}
use Rattle.marshal_core.specs.declared.data_type.BasicType.{BasicType}
use Rattle.marshal_core.specs.declared.data_type.BasicType.TheVariants as of_type
use Rattle.marshal_core.specs.declared.fault.MarshalFault.{MarshalFault}
use Rattle.marshal_core.specs.declared.fault.MarshalFault.TheVariants.{Truncated}
use Rattle.marshal_core.specs.declared.order.Order.{Order}
use Rattle.marshal_core.specs.Types.{Ty, basic, variant, array, entry, struct, Tys, no_types, more_types, one_type}
use Rattle.marshal_core.specs.Values.{BasicVal, a_basic, a_string, an_object_path, Val, a_variant, an_array, an_entry, a_struct, Vals, no_values, more_values}
use Rattle.marshal_core.specs.Faults.{◌>>=◌}
use Rattle.marshal_core.specs.Signatures.{basic_code, code, codes}
use Rattle.marshal_core.specs.Spelling.{Spells}
use Rattle.marshal_core.specs.Reading.{Field, Reader, as_a, byte_at, boolean_at, number_at, fixed_at, string_at, path_at, signature_at, basic_at, variant_type_at, variant_at, inside_at, elements_at, array_at, padding_at, entry_at, fields_at, struct_fields_at, struct_at, value_at}
use Rattle.marshal_core.proofs.Results.{bind_ok, ok_is}
use Rattle.marshal.proofs.Layers.{value_basic, value_variant, value_array, value_entry, value_struct}
use Rattle.marshal.proofs.Decoded.{is_read}
use Rattle.marshal_check.specs.Arguments.{BodyArgument, string_argument, path_argument, other_argument, argument_of, basic_argument, arguments, arguments_at, then_others}
use Rattle.marshal_check.specs.SignatureTexts.{is_signature_text, types_in, BeginsWith}
use Rattle.marshal_check.proofs.Checked.{is_its_text}
use Rattle.marshal_check.proofs.Skipping.{is_basic}

-- ---- values that are shown as another type

abbrev IsOther : Field Val → Type 0
IsOther read = (v : Val) (p : ℕ) (left : List ℕ) → read ≡ Ok (v, p, left) → argument_of v ≡ other_argument

ok_other : (v : Val) (p : ℕ) (left : List ℕ) → argument_of v ≡ other_argument → IsOther (Ok (v, p, left))
ok_other v p left o w q l e = ap (λ (x : Val × ℕ × List ℕ). argument_of x.0) (sym (ok_is (v, p, left) (w, q, l) e)) ∙ o

err_other : (x : MarshalFault) → IsOther (Err x)
err_other x v p left e = absurd cc

then_other : {A : Type 0} (r : Result A MarshalFault) (f : A → Field Val) → ((x : A) → IsOther (f x)) → IsOther (r >>= f)
then_other (Ok x) f o = o x
then_other (Err e) f o = err_other e

made_other : {A : Type 0} (make : A → BasicVal) (r : Field A) → ((x : A) → basic_argument (make x) ≡ other_argument) → IsOther (as_a a_basic (as_a make r))
made_other make (Ok x) o = ok_other (a_basic (make x.0)) x.1 x.2 (o x.0)
made_other make (Err e) o = err_other e

basic_other : (b : BasicType) (order : Order) (short : MarshalFault) (at : ℕ) (bytes : List ℕ) → (b ≡ of_type.String → ⊥) → (b ≡ of_type.ObjectPath → ⊥) → IsOther (as_a a_basic (basic_at order short b at bytes))
unfolding basic_at
basic_other of_type.Byte order short at bytes s o = made_other _ (byte_at short at bytes) (λ x. refl)
basic_other of_type.Boolean order short at bytes s o = made_other _ (boolean_at order short at bytes) (λ x. refl)
basic_other of_type.Int16 order short at bytes s o = made_other _ (number_at order _ short at bytes) (λ x. refl)
basic_other of_type.Uint16 order short at bytes s o = made_other _ (number_at order _ short at bytes) (λ x. refl)
basic_other of_type.Int32 order short at bytes s o = made_other _ (number_at order _ short at bytes) (λ x. refl)
basic_other of_type.Uint32 order short at bytes s o = made_other _ (number_at order _ short at bytes) (λ x. refl)
basic_other of_type.Int64 order short at bytes s o = made_other _ (number_at order _ short at bytes) (λ x. refl)
basic_other of_type.Uint64 order short at bytes s o = made_other _ (number_at order _ short at bytes) (λ x. refl)
basic_other of_type.Double order short at bytes s o = made_other _ (fixed_at 8 short at bytes) (λ x. refl)
basic_other of_type.String order short at bytes s o = absurd (s refl)
basic_other of_type.ObjectPath order short at bytes s o = absurd (o refl)
basic_other of_type.Signature order short at bytes s o = made_other _ (signature_at short at bytes) (λ x. refl)

variant_other : (read : Reader) (short : MarshalFault) (at : ℕ) (bytes : List ℕ) → IsOther (variant_at read short at bytes)
unfolding variant_at
variant_other read short at bytes = then_other (variant_type_at short at bytes) _ (λ t. then_other (read short t.0 t.1 t.2) _ (λ v. ok_other (a_variant v.0) v.1 v.2 refl))

array_other : (read : Reader) (order : Order) (short : MarshalFault) (t : Ty) (at : ℕ) (bytes : List ℕ) → IsOther (array_at read order short t at bytes)
unfolding array_at
array_other read order short t at bytes = then_other (inside_at order short _ at bytes) _ (λ i. then_other (elements_at read t (length i.0.1) i.0.0 i.0.1) _ (λ vs. ok_other (an_array t vs) i.1 i.2 refl))

entry_other : (read : Reader) (order : Order) (short : MarshalFault) (k : BasicType) (t : Ty) (at : ℕ) (bytes : List ℕ) → IsOther (entry_at read order short k t at bytes)
unfolding entry_at
entry_other read order short k t at bytes = then_other (padding_at 8 short at bytes) _ (λ p. then_other (basic_at order short k p.0 p.1) _ (λ k. then_other (read short t k.1 k.2) _ (λ v. ok_other (an_entry k.0 v.0) v.1 v.2 refl)))

fields_other : (read : Reader) (short : MarshalFault) (ts : Tys) (at : ℕ) (bytes : List ℕ) → IsOther (struct_fields_at read short ts at bytes)
unfolding struct_fields_at
fields_other read short ts at bytes = then_other (padding_at 8 short at bytes) _ (λ p. then_other (fields_at read short ts p.0 p.1) _ (λ vs. ok_other (a_struct vs.0) vs.1 vs.2 refl))

struct_other : (read : Reader) (short : MarshalFault) (ts : Tys) (at : ℕ) (bytes : List ℕ) → IsOther (struct_at read short ts at bytes)
unfolding struct_at
struct_other read short no_types at bytes = err_other _
struct_other read short (more_types t ts) at bytes = fields_other read short (more_types t ts) at bytes

along : (r s : Field Val) → r ≡ s → IsOther s → IsOther r
along r s e o v p left h = o v p left (sym e ∙ h)

abbrev first : List ℕ → ℕ
first bytes = get_or bytes 0 0

value_other : (t : Ty) (tail of inner : List ℕ) (c : ℕ) (order : Order) (short : MarshalFault) (at : ℕ) (bytes : List ℕ) → of ≡ code t ++ tail → of ≡ c ∷ inner → (c ≡ 115 → ⊥) → (c ≡ 111 → ⊥) → IsOther (value_at 64 order short t at bytes)
value_other (basic b) tail of inner c order short at bytes e f s o =
    let k : c ≡ basic_code b = ap first (sym f ∙ e) in
    along (value_at 64 order short (basic b) at bytes) _ (value_basic 64 order short b at bytes)
    (basic_other b order short at bytes (λ h. s (k ∙ ap basic_code h)) (λ h. o (k ∙ ap basic_code h)))
value_other variant tail of inner c order short at bytes e f s o = along (value_at 64 order short variant at bytes) _ (value_variant 64 order short at bytes (omega arith)) (variant_other _ short at bytes)
value_other (array t) tail of inner c order short at bytes e f s o = along (value_at 64 order short (array t) at bytes) _ (value_array 64 order short t at bytes (omega arith)) (array_other _ order short t at bytes)
value_other (entry k t) tail of inner c order short at bytes e f s o = along (value_at 64 order short (entry k t) at bytes) _ (value_entry 64 order short k t at bytes (omega arith)) (entry_other _ order short k t at bytes)
value_other (struct ts) tail of inner c order short at bytes e f s o = along (value_at 64 order short (struct ts) at bytes) _ (value_struct 64 order short ts at bytes (omega arith)) (struct_other _ short ts at bytes)

pub shows_other : (t : Ty) (tail of inner : List ℕ) (c : ℕ) (order : Order) (short : MarshalFault) (at p : ℕ) (bytes rest : List ℕ) → of ≡ code t ++ tail → of ≡ c ∷ inner → (c ≡ 115 → ⊥) → (c ≡ 111 → ⊥)
    → ((v : Val) × (value_at 64 order short t at bytes ≡ Ok (v, p, rest))) → (v : Val) × (value_at 64 order short t at bytes ≡ Ok (v, p, rest)) × (other_argument ≡ argument_of v)
shows_other t tail of inner c order short at p bytes rest e f s o (v, h) = (v, h, sym (value_other t tail of inner c order short at bytes e f s o v p rest h))

-- ---- texts

is_string : (t : Ty) (tail of inner : List ℕ) (c : ℕ) → of ≡ code t ++ tail → of ≡ c ∷ inner → c ≡ 115 → t ≡ basic of_type.String
is_string t tail of inner c e f h = is_basic t tail of inner c of_type.String e f (rw h refl)

is_path : (t : Ty) (tail of inner : List ℕ) (c : ℕ) → of ≡ code t ++ tail → of ≡ c ∷ inner → c ≡ 111 → t ≡ basic of_type.ObjectPath
is_path t tail of inner c e f h = is_basic t tail of inner c of_type.ObjectPath e f (rw h refl)

pub string_value : (order : Order) (short : MarshalFault) (at : ℕ) (bytes : List ℕ) → value_at 64 order short (basic of_type.String) at bytes ≡ as_a a_basic (as_a a_string (string_at order short at bytes))
unfolding basic_at
string_value order short at bytes = value_basic 64 order short of_type.String at bytes

pub path_value : (order : Order) (short : MarshalFault) (at : ℕ) (bytes : List ℕ) → value_at 64 order short (basic of_type.ObjectPath) at bytes ≡ as_a a_basic (as_a an_object_path (path_at order short at bytes))
unfolding basic_at
path_value order short at bytes = value_basic 64 order short of_type.ObjectPath at bytes

pub shows_string : (t : Ty) (tail of inner : List ℕ) (c : ℕ) (order : Order) (short : MarshalFault) (at p : ℕ) (bytes text rest : List ℕ) → of ≡ code t ++ tail → of ≡ c ∷ inner → c ≡ 115 → string_at order short at bytes ≡ Ok (text, p, rest)
    → (v : Val) × (value_at 64 order short t at bytes ≡ Ok (v, p, rest)) × (string_argument text ≡ argument_of v)
shows_string t tail of inner c order short at p bytes text rest e f h r =
    (a_basic (a_string text), ap (λ (u : Ty). value_at 64 order short u at bytes) (is_string t tail of inner c e f h) ∙ string_value order short at bytes ∙ rw r refl, refl)

pub string_fault : (t : Ty) (tail of inner : List ℕ) (c : ℕ) (order : Order) (short x : MarshalFault) (at : ℕ) (bytes : List ℕ) → of ≡ code t ++ tail → of ≡ c ∷ inner → c ≡ 115 → string_at order short at bytes ≡ Err x → value_at 64 order short t at bytes ≡ Err x
string_fault t tail of inner c order short x at bytes e f h r =
    ap (λ (u : Ty). value_at 64 order short u at bytes) (is_string t tail of inner c e f h) ∙ string_value order short at bytes ∙ rw r refl

pub shows_path : (t : Ty) (tail of inner : List ℕ) (c : ℕ) (order : Order) (short : MarshalFault) (at p : ℕ) (bytes text rest : List ℕ) → of ≡ code t ++ tail → of ≡ c ∷ inner → c ≡ 111 → path_at order short at bytes ≡ Ok (text, p, rest)
    → (v : Val) × (value_at 64 order short t at bytes ≡ Ok (v, p, rest)) × (path_argument text ≡ argument_of v)
shows_path t tail of inner c order short at p bytes text rest e f h r =
    (a_basic (an_object_path text), ap (λ (u : Ty). value_at 64 order short u at bytes) (is_path t tail of inner c e f h) ∙ path_value order short at bytes ∙ rw r refl, refl)

pub path_fault : (t : Ty) (tail of inner : List ℕ) (c : ℕ) (order : Order) (short x : MarshalFault) (at : ℕ) (bytes : List ℕ) → of ≡ code t ++ tail → of ≡ c ∷ inner → c ≡ 111 → path_at order short at bytes ≡ Err x → value_at 64 order short t at bytes ≡ Err x
path_fault t tail of inner c order short x at bytes e f h r =
    ap (λ (u : Ty). value_at 64 order short u at bytes) (is_path t tail of inner c e f h) ∙ path_value order short at bytes ∙ rw r refl

-- ---- all arguments of a body

all_arguments : (ts : Tys) (order : Order) (at : ℕ) (bytes : List ℕ) (vs : Vals) (p : ℕ) (left : List ℕ) → fields_at (value_at 64 order) Truncated ts at bytes ≡ Ok (vs, p, left) → arguments_at order ts at bytes ≡ arguments vs
unfolding fields_at
all_arguments no_types order at bytes vs p left e = ap (λ (x : Vals × ℕ × List ℕ). arguments x.0) (ok_is (no_values, at, bytes) (vs, p, left) e)
all_arguments (more_types t ts) order at bytes vs p left e =
    let v = bind_ok (value_at 64 order Truncated t at bytes) (λ v. fields_at (value_at 64 order) Truncated ts v.1 v.2 >>= λ vs. Ok (more_values v.0 vs.0, vs.1, vs.2)) (vs, p, left) e in
    let ws = bind_ok (fields_at (value_at 64 order) Truncated ts v.0.1 v.0.2) (λ ws. Ok (more_values v.0.0 ws.0, ws.1, ws.2)) (vs, p, left) v.2 in
    let here = ok_is (more_values v.0.0 ws.0.0, ws.0.1, ws.0.2) (vs, p, left) ws.2 in
    ap (then_others (arguments_at order ts)) v.1
    ∙ ap (λ (others : List BodyArgument). argument_of v.0.0 ∷ others) (all_arguments ts order v.0.1 v.0.2 ws.0.0 ws.0.1 ws.0.2 ws.1)
    ∙ ap (λ (x : Vals × ℕ × List ℕ). arguments x.0) here

pub spelled_arguments : (order : Order) (offset : ℕ) (ts : Tys) (bytes front rest : List ℕ) (vs : Vals) → bytes ≡ front ++ rest → Spells order offset ts vs front → arguments_at order ts (offset % 8) bytes ≡ arguments vs
spelled_arguments order offset ts bytes front rest vs e h =
    let d = bind_ok (fields_at (value_at 64 order) Truncated ts (offset % 8) bytes) (λ x. Ok (x.0, x.1 - offset % 8)) (vs, length front) (is_read order ts offset bytes front rest vs e h) in
    all_arguments ts order (offset % 8) bytes d.0.0 d.0.1 d.0.2 d.1 ∙ ap (λ (x : Vals × ℕ). arguments x.0) (ok_is (d.0.0, d.0.1 - offset % 8) (vs, length front) d.2)

-- ---- one argument after the other

one_text : (text : List ℕ) (t : Ty) → is_signature_text text ≡ true → types_in text ≡ one_type t → text ≡ code t ++ []
one_text text t valid e = (is_its_text text valid).1 ∙ ap codes e

pub steps_on : (order : Order) (ts first others : Tys) (at p : ℕ) (text bytes rest : List ℕ) (x : BodyArgument) → BeginsWith ts first others → first ≡ types_in text → is_signature_text text ≡ true
    → ((t : Ty) (tail : List ℕ) → text ≡ code t ++ tail → (v : Val) × (value_at 64 order Truncated t at bytes ≡ Ok (v, p, rest)) × (x ≡ argument_of v)) → arguments_at order ts at bytes ≡ x ∷ arguments_at order others p rest
steps_on order ts first others at p text bytes rest x (t, f, e) same valid reads =
    let v = reads t [] (one_text text t valid (sym same ∙ f)) in
    ap (λ (us : Tys). arguments_at order us at bytes) e ∙ ap (then_others (arguments_at order others)) v.1 ∙ ap (λ (y : BodyArgument). y ∷ arguments_at order others p rest) (sym v.2)

pub stops : (order : Order) (ts first others : Tys) (at : ℕ) (text bytes : List ℕ) (fault : MarshalFault) → BeginsWith ts first others → first ≡ types_in text → is_signature_text text ≡ true
    → ((t : Ty) (tail : List ℕ) → text ≡ code t ++ tail → value_at 64 order Truncated t at bytes ≡ Err fault) → arguments_at order ts at bytes ≡ []
stops order ts first others at text bytes fault (t, f, e) same valid reads =
    let r = reads t [] (one_text text t valid (sym same ∙ f)) in
    ap (λ (us : Tys). arguments_at order us at bytes) e ∙ ap (then_others (arguments_at order others)) r
