-- A basic value that is read is spelled so.
use Rattle.std.proofs.Common.{◌≡◌, ℕ, zero, suc, ◌+◌, ◌≤◌, ◌<◌, ◌^◌, Bool, true, false, cond, eqb, ltb, leb, List, [], ◌∷◌, ◌++◌, length, get_or, take, drop, drop-cons, Option, Some, None, Ok, Err, refl, sym, ap, subst, ◌∙◌, append_assoc, arith, inl, inr}
use Rattle.std.specs.Prelude.{replicate}
use Rattle.std.specs.Str.{is_utf8}
use Rattle.std.specs.Int.{Width, w16, w32, w64, byte_len, cast_signed, cast_unsigned}
use Rattle.std.proofs.lemmas.Str.{IsUtf8-from_is_utf8}
use Rattle.std.proofs.lemmas.Int.{of_z-to_z}
use Rattle.std.proofs.lemmas.Bool.{ltb-false}
use Rattle.std.proofs.lemmas.List.{take-append-drop, length-append, length-take}
use Rattle.names.specs.declared.fault.NameFault.{NameFault}
use Rattle.names.specs.ObjectPath.{object_path_fault}
use Rattle.names.proofs.Faults.{none_object_path}
use Rattle.marshal_core.specs.declared.data_type.BasicType.{BasicType}
use Rattle.marshal_core.specs.declared.data_type.BasicType.TheVariants as of_type
use Rattle.marshal_core.specs.declared.fault.MarshalFault.{MarshalFault}
use Rattle.marshal_core.specs.declared.fault.MarshalFault.TheVariants.{Boolean, NulInText, Utf8}
use Rattle.marshal_core.specs.declared.order.Order.{Order}
use Rattle.marshal_core.specs.Types.{Ty, Tys, one_type}
use Rattle.marshal_core.specs.Values.{BasicVal, a_byte, a_boolean, an_int16, a_uint16, an_int32, a_uint32, an_int64, a_uint64, a_double, a_string, an_object_path, a_signature}
use Rattle.marshal_core.specs.Signatures.{codes, IsSignature, signature_of, variant_type_of, max_signature_length}
use Rattle.marshal_core.specs.Faults.{◌>>=◌}
use Rattle.marshal_core.specs.Spelling.{pad_len, pads, number_bytes, number_spelling, boolean_number, ended, text_spelling, signature_spelling, has_zero, IsString, SpellBasic}
use Rattle.marshal_core.specs.Reading.{zeros_at, padding_at, fixed_at, number, number_at, byte_at, boolean_of, boolean_at, content_at, string_at, unless_faulty, path_at, short_text_at, signature_at, variant_type_at, basic_at}
use Rattle.marshal_core.proofs.Results.{bind_ok, chosen, guard_ok, guard_else, ok_is, leb-no, eqb-yes}
use Rattle.marshal_core.proofs.TypesTaken.{signature_takes, variant_type_takes}
use Rattle.marshal.proofs.Numbers.{AllBytes, AllBytes-left, AllBytes-right, IsWrittenBack, written_back_16, written_back_32, written_back_64, signed_16, signed_32, signed_64}
use Rattle.marshal.proofs.BasicAgain.{length-pads}

-- ---- padding and numbers

zeros_take : (n : ℕ) (short : MarshalFault) (bytes rest : List ℕ) → zeros_at n short bytes ≡ Ok rest → bytes ≡ replicate n 0 ++ rest
unfolding zeros_at
zeros_take zero short bytes rest e = ok_is bytes rest e
zeros_take (suc n) short [] rest e = absurd cc
zeros_take (suc n) short (zero ∷ bytes) rest e = ap (λ (x : List ℕ). 0 ∷ x) (zeros_take n short bytes rest e)
zeros_take (suc n) short (suc b ∷ bytes) rest e = absurd cc

pub padding_takes : (align : ℕ) (short : MarshalFault) (at : ℕ) (bytes : List ℕ) (x : ℕ × List ℕ) → padding_at align short at bytes ≡ Ok x → (bytes ≡ pads align at ++ x.1) × (x.0 ≡ at + pad_len align at)
unfolding padding_at
padding_takes align short at bytes x e =
    let a = bind_ok (zeros_at (pad_len align at) short bytes) (λ rest. Ok (at + pad_len align at, rest)) x e in
    let i = ok_is (at + pad_len align at, a.0) x a.2 in
    (zeros_take (pad_len align at) short bytes a.0 a.1 ∙ ap (λ (y : ℕ × List ℕ). pads align at ++ y.1) i, ap (λ (y : ℕ × List ℕ). y.0) (sym i))

abbrev TookFixed : ℕ → ℕ → List ℕ → List ℕ × ℕ × List ℕ → Type 0
TookFixed size at bytes x = (length x.0 ≡ size) × (bytes ≡ (pads size at ++ x.0) ++ x.2) × (x.1 ≡ at + pad_len size at + size)

fixed_takes : (size : ℕ) (short : MarshalFault) (at : ℕ) (bytes : List ℕ) (x : List ℕ × ℕ × List ℕ) → fixed_at size short at bytes ≡ Ok x → TookFixed size at bytes x
unfolding fixed_at
fixed_takes size short at bytes x e =
    let a = bind_ok (padding_at size short at bytes) (λ p. cond (ltb (length p.1) size) (Err short) (Ok (take size p.1, p.0 + size, drop size p.1))) x e in
    let p = padding_takes size short at bytes a.0 a.1 in
    let g = guard_ok (ltb (length a.0.1) size) short (Ok (take size a.0.1, a.0.0 + size, drop size a.0.1)) x a.2 in
    let long : size ≤ length a.0.1 = ltb-false _ _ g.0 in
    let parts : bytes ≡ (pads size at ++ take size a.0.1) ++ drop size a.0.1 = p.0 ∙ ap (λ (y : List ℕ). pads size at ++ y) (sym (take-append-drop size a.0.1)) ∙ sym (append_assoc (pads size at) (take size a.0.1) (drop size a.0.1)) in
    subst (TookFixed size at bytes) (ok_is (take size a.0.1, a.0.0 + size, drop size a.0.1) x g.1) (omega (arith, length-take size a.0.1), parts, ap (λ (k : ℕ). k + size) p.1)

abbrev pub WritesBack : Order → Width → ℕ → Type 0
WritesBack order w limit = (bs : List ℕ) → length bs ≡ byte_len w → AllBytes bs → IsWrittenBack order w bs limit

abbrev pub TookNumber : Order → Width → ℕ → ℕ → List ℕ → ℕ × ℕ × List ℕ → Type 0
TookNumber order w limit at bytes x = (x.0 < limit) × (bytes ≡ number_spelling order w at x.0 ++ x.2) × (x.1 ≡ at + length (number_spelling order w at x.0))

pub number_takes : (order : Order) (w : Width) (limit : ℕ) → WritesBack order w limit → (short : MarshalFault) (at : ℕ) (bytes : List ℕ) (x : ℕ × ℕ × List ℕ) → AllBytes bytes → number_at order w short at bytes ≡ Ok x → TookNumber order w limit at bytes x
unfolding number_at
number_takes order w limit back short at bytes x fits e =
    let a = bind_ok (fixed_at (byte_len w) short at bytes) (λ f. Ok (number order w f.0, f.1, f.2)) x e in
    let f = fixed_takes (byte_len w) short at bytes a.0 a.1 in
    let fits2 : AllBytes a.0.0 = AllBytes-right (pads (byte_len w) at) a.0.0 (AllBytes-left (pads (byte_len w) at ++ a.0.0) a.0.2 (subst AllBytes f.1 fits)) in
    let b = back a.0.0 f.0 fits2 in
    let parts : bytes ≡ number_spelling order w at (number order w a.0.0) ++ a.0.2 = f.1 ∙ ap (λ (y : List ℕ). (pads (byte_len w) at ++ y) ++ a.0.2) (sym b.0) in
    let reach : a.0.1 ≡ at + length (number_spelling order w at (number order w a.0.0)) = omega (arith, f.2, f.0, ap length b.0, length-append (pads (byte_len w) at) (number_bytes order w (number order w a.0.0)), length-pads (byte_len w) at) in
    subst (TookNumber order w limit at bytes) (ok_is (number order w a.0.0, a.0.1, a.0.2) x a.2) (b.1, parts, reach)

byte_takes : (short : MarshalFault) (at : ℕ) (bytes : List ℕ) (x : ℕ × ℕ × List ℕ) → byte_at short at bytes ≡ Ok x → (bytes ≡ x.0 ∷ x.2) × (x.1 ≡ at + 1)
unfolding byte_at
byte_takes short at [] x e = absurd cc
byte_takes short at (b ∷ bytes) x e = subst (λ (y : ℕ × ℕ × List ℕ). (b ∷ bytes ≡ y.0 ∷ y.2) × (y.1 ≡ at + 1)) (ok_is (b, at + 1, bytes) x e) (refl, refl)

abbrev TookBoolean : Order → ℕ → List ℕ → Bool × ℕ × List ℕ → Type 0
TookBoolean order at bytes x = (bytes ≡ number_spelling order w32 at (boolean_number x.0) ++ x.2) × (x.1 ≡ at + length (number_spelling order w32 at (boolean_number x.0)))

boolean_takes : (order : Order) (short : MarshalFault) (at : ℕ) (bytes : List ℕ) (x : Bool × ℕ × List ℕ) → AllBytes bytes → boolean_at order short at bytes ≡ Ok x → TookBoolean order at bytes x
unfolding boolean_at
boolean_takes order short at bytes x fits e =
    let a = bind_ok (number_at order w32 short at bytes) boolean_of x e in
    let n = number_takes order w32 (2 ^ 32) (written_back_32 order) short at bytes a.0 fits a.1 in
    elim (chosen (eqb a.0.0 0) (Ok (false, a.0.1, a.0.2)) (cond (eqb a.0.0 1) (Ok (true, a.0.1, a.0.2)) (Err Boolean)) (Ok x) a.2) [
      | inl h ↦
          let is : a.0.0 ≡ 0 = eqb-yes a.0.0 0 h.0 in
          let here : TookBoolean order at bytes (false, a.0.1, a.0.2) = (n.1 ∙ ap (λ (k : ℕ). number_spelling order w32 at k ++ a.0.2) is, n.2 ∙ ap (λ (k : ℕ). at + length (number_spelling order w32 at k)) is) in
          subst (TookBoolean order at bytes) (ok_is (false, a.0.1, a.0.2) x h.1) here
      | inr h ↦
          let g = guard_else (eqb a.0.0 1) Boolean (Ok (true, a.0.1, a.0.2)) x h.1 in
          let is : a.0.0 ≡ 1 = eqb-yes a.0.0 1 g.0 in
          let here : TookBoolean order at bytes (true, a.0.1, a.0.2) = (n.1 ∙ ap (λ (k : ℕ). number_spelling order w32 at k ++ a.0.2) is, n.2 ∙ ap (λ (k : ℕ). at + length (number_spelling order w32 at k)) is) in
          subst (TookBoolean order at bytes) (ok_is (true, a.0.1, a.0.2) x g.1) here
    ]

-- ---- texts

abbrev TookContent : ℕ → ℕ → List ℕ → List ℕ × ℕ × List ℕ → Type 0
TookContent n at bytes x = (length x.0 ≡ n) × (bytes ≡ ended x.0 ++ x.2) × (x.1 ≡ at + n + 1) × (has_zero x.0 ≡ false)

content_takes : (short : MarshalFault) (n at : ℕ) (bytes : List ℕ) (x : List ℕ × ℕ × List ℕ) → content_at short n at bytes ≡ Ok x → TookContent n at bytes x
unfolding content_at
content_takes short n at bytes x e =
    let a = guard_ok (leb (length bytes) n) short (cond (has_zero (take n bytes)) (Err NulInText) (cond (eqb (get_or bytes n 0) 0) (Ok (take n bytes, at + n + 1, drop (n + 1) bytes)) (Err NulInText))) x e in
    let b = guard_ok (has_zero (take n bytes)) NulInText (cond (eqb (get_or bytes n 0) 0) (Ok (take n bytes, at + n + 1, drop (n + 1) bytes)) (Err NulInText)) x a.1 in
    let c = guard_else (eqb (get_or bytes n 0) 0) NulInText (Ok (take n bytes, at + n + 1, drop (n + 1) bytes)) x b.1 in
    let long : n < length bytes = leb-no _ _ a.0 in
    let last : get_or bytes n 0 ≡ 0 = eqb-yes _ _ c.0 in
    let k : n + 1 ≡ suc n = omega arith in
    let back : drop n bytes ≡ 0 ∷ drop (n + 1) bytes = drop-cons bytes n 0 long ∙ rw (last, k) refl in
    let parts : bytes ≡ (take n bytes ++ 0 ∷ []) ++ drop (n + 1) bytes = sym (take-append-drop n bytes) ∙ ap (λ (y : List ℕ). take n bytes ++ y) back ∙ sym (append_assoc (take n bytes) (0 ∷ []) (drop (n + 1) bytes)) in
    subst (TookContent n at bytes) (ok_is (take n bytes, at + n + 1, drop (n + 1) bytes) x c.1) (omega (arith, length-take n bytes), parts, refl, b.0)

abbrev TookText : Order → ℕ → List ℕ → List ℕ × ℕ × List ℕ → Type 0
TookText order at bytes x = IsString x.0 × (bytes ≡ text_spelling order at x.0 ++ x.2) × (x.1 ≡ at + length (text_spelling order at x.0))

string_takes : (order : Order) (short : MarshalFault) (at : ℕ) (bytes : List ℕ) (x : List ℕ × ℕ × List ℕ) → AllBytes bytes → string_at order short at bytes ≡ Ok x → TookText order at bytes x
unfolding string_at
string_takes order short at bytes x fits e =
    let b = bind_ok (number_at order w32 short at bytes) (λ n. content_at short n.0 n.1 n.2 >>= λ text. cond (is_utf8 text.0) (Ok text) (Err Utf8)) x e in
    let a = bind_ok (content_at short b.0.0 b.0.1 b.0.2) (λ text. cond (is_utf8 text.0) (Ok text) (Err Utf8)) x b.2 in
    let u = guard_else (is_utf8 a.0.0) Utf8 (Ok a.0) x a.2 in
    let n = number_takes order w32 (2 ^ 32) (written_back_32 order) short at bytes b.0 fits b.1 in
    let c = content_takes short b.0.0 b.0.1 b.0.2 a.0 a.1 in
    let lt : length a.0.0 < 2 ^ 32 = omega (arith, n.0, c.0) in
    let text_is : number_spelling order w32 at b.0.0 ++ ended a.0.0 ≡ text_spelling order at a.0.0 = ap (λ (k : ℕ). number_spelling order w32 at k ++ ended a.0.0) (sym c.0) in
    let parts : bytes ≡ text_spelling order at a.0.0 ++ a.0.2 = n.1 ∙ ap (λ (y : List ℕ). number_spelling order w32 at b.0.0 ++ y) c.1 ∙ sym (append_assoc (number_spelling order w32 at b.0.0) (ended a.0.0) a.0.2) ∙ ap (λ (y : List ℕ). y ++ a.0.2) text_is in
    let reach : a.0.1 ≡ at + length (text_spelling order at a.0.0) = omega (arith, c.2, n.2, c.0, length-append (number_spelling order w32 at b.0.0) (ended a.0.0), length-append a.0.0 (0 ∷ []), ap length text_is) in
    subst (TookText order at bytes) (ok_is a.0 x u.1) ((lt, IsUtf8-from_is_utf8 a.0.0 u.0, c.3), parts, reach)

no_fault : {A : Type 0} (x y : A) (o : Option NameFault) → unless_faulty x o ≡ Ok y → (o ≡ None) × (x ≡ y)
no_fault x y None e = (refl, ok_is x y e)
no_fault x y (Some fault) e = absurd cc

path_takes : (order : Order) (short : MarshalFault) (at : ℕ) (bytes : List ℕ) (x : List ℕ × ℕ × List ℕ) → AllBytes bytes → path_at order short at bytes ≡ Ok x → TookText order at bytes x × (object_path_fault x.0 ≡ None)
unfolding path_at
path_takes order short at bytes x fits e =
    let a = bind_ok (string_at order short at bytes) (λ text. unless_faulty text (object_path_fault text.0)) x e in
    let f = no_fault a.0 x (object_path_fault a.0.0) a.2 in
    let s = string_takes order short at bytes a.0 fits a.1 in
    subst (λ (y : List ℕ × ℕ × List ℕ). TookText order at bytes y × (object_path_fault y.0 ≡ None)) f.1 (s, f.0)

abbrev TookShort : ℕ → List ℕ → List ℕ × ℕ × List ℕ → Type 0
TookShort at bytes x = (length x.0 < 256) × (bytes ≡ (length x.0 ∷ ended x.0) ++ x.2) × (x.1 ≡ at + length x.0 + 2)

short_takes : (short : MarshalFault) (at : ℕ) (bytes : List ℕ) (x : List ℕ × ℕ × List ℕ) → AllBytes bytes → short_text_at short at bytes ≡ Ok x → TookShort at bytes x
unfolding short_text_at
short_takes short at bytes x fits e =
    let b = bind_ok (byte_at short at bytes) (λ n. content_at short n.0 n.1 n.2) x e in
    let front = byte_takes short at bytes b.0 b.1 in
    let c = content_takes short b.0.0 b.0.1 b.0.2 x b.2 in
    let small : b.0.0 < 256 = (subst AllBytes front.0 fits).0 in
    let parts : bytes ≡ (length x.0 ∷ ended x.0) ++ x.2 = front.0 ∙ ap (λ (k : ℕ). k ∷ b.0.2) (sym c.0) ∙ ap (λ (y : List ℕ). length x.0 ∷ y) c.1 in
    (omega (arith, c.0, small), parts, omega (arith, c.2, front.1, c.0))

abbrev TookSignature : ℕ → List ℕ → Tys × ℕ × List ℕ → Type 0
TookSignature at bytes x = IsSignature x.0 × (bytes ≡ signature_spelling x.0 ++ x.2) × (x.1 ≡ at + length (signature_spelling x.0))

signature_at_takes : (short : MarshalFault) (at : ℕ) (bytes : List ℕ) (x : Tys × ℕ × List ℕ) → AllBytes bytes → signature_at short at bytes ≡ Ok x → TookSignature at bytes x
unfolding signature_at
signature_at_takes short at bytes x fits e =
    let a = bind_ok (short_text_at short at bytes) (λ text. signature_of text.0 >>= λ ts. Ok (ts, text.1, text.2)) x e in
    let c = bind_ok (signature_of a.0.0) (λ ts. Ok (ts, a.0.1, a.0.2)) x a.2 in
    let s = short_takes short at bytes a.0 fits a.1 in
    let t = signature_takes a.0.0 c.0 c.1 in
    let parts : bytes ≡ signature_spelling c.0 ++ a.0.2 = s.1 ∙ ap (λ (y : List ℕ). (length y ∷ ended y) ++ a.0.2) t.1 in
    let reach : a.0.1 ≡ at + length (signature_spelling c.0) = omega (arith, s.2, ap length t.1, length-append (codes c.0) (0 ∷ [])) in
    subst (TookSignature at bytes) (ok_is (c.0, a.0.1, a.0.2) x c.2) (t.0, parts, reach)

abbrev pub TookVariantType : ℕ → List ℕ → Ty × ℕ × List ℕ → Type 0
TookVariantType at bytes x = IsSignature (one_type x.0) × (bytes ≡ signature_spelling (one_type x.0) ++ x.2) × (x.1 ≡ at + length (signature_spelling (one_type x.0)))

pub variant_type_at_takes : (short : MarshalFault) (at : ℕ) (bytes : List ℕ) (x : Ty × ℕ × List ℕ) → AllBytes bytes → variant_type_at short at bytes ≡ Ok x → TookVariantType at bytes x
unfolding variant_type_at
variant_type_at_takes short at bytes x fits e =
    let a = bind_ok (short_text_at short at bytes) (λ text. variant_type_of text.0 >>= λ t. Ok (t, text.1, text.2)) x e in
    let c = bind_ok (variant_type_of a.0.0) (λ t. Ok (t, a.0.1, a.0.2)) x a.2 in
    let s = short_takes short at bytes a.0 fits a.1 in
    let small : length a.0.0 ≤ max_signature_length = omega (arith, s.0) in
    let t = variant_type_takes a.0.0 c.0 small c.1 in
    let parts : bytes ≡ signature_spelling (one_type c.0) ++ a.0.2 = s.1 ∙ ap (λ (y : List ℕ). (length y ∷ ended y) ++ a.0.2) t.1 in
    let reach : a.0.1 ≡ at + length (signature_spelling (one_type c.0)) = omega (arith, s.2, ap length t.1, length-append (codes (one_type c.0)) (0 ∷ [])) in
    subst (TookVariantType at bytes) (ok_is (c.0, a.0.1, a.0.2) x c.2) (t.0, parts, reach)

-- ---- basic values

abbrev pub TookBasic : Order → ℕ → BasicType → List ℕ → BasicVal × ℕ × List ℕ → Type 0
TookBasic order at b bytes x = (bs : List ℕ) × SpellBasic x.0 order at b bs × (bytes ≡ bs ++ x.2) × (x.1 ≡ at + length bs)

pub basic_takes : (order : Order) (short : MarshalFault) (b : BasicType) (at : ℕ) (bytes : List ℕ) (x : BasicVal × ℕ × List ℕ) → AllBytes bytes → basic_at order short b at bytes ≡ Ok x → TookBasic order at b bytes x
unfolding basic_at
basic_takes order short of_type.Byte at bytes x fits e =
    let a = bind_ok (byte_at short at bytes) (λ y. Ok (a_byte y.0, y.1, y.2)) x e in
    let b = byte_takes short at bytes a.0 a.1 in
    subst (TookBasic order at of_type.Byte bytes) (ok_is (a_byte a.0.0, a.0.1, a.0.2) x a.2) (a.0.0 ∷ [], (refl, (subst AllBytes b.0 fits).0, refl), b.0, b.1)
basic_takes order short of_type.Boolean at bytes x fits e =
    let a = bind_ok (boolean_at order short at bytes) (λ y. Ok (a_boolean y.0, y.1, y.2)) x e in
    let n = boolean_takes order short at bytes a.0 fits a.1 in
    subst (TookBasic order at of_type.Boolean bytes) (ok_is (a_boolean a.0.0, a.0.1, a.0.2) x a.2) (number_spelling order w32 at (boolean_number a.0.0), (refl, tt, refl), n.0, n.1)
basic_takes order short of_type.Int16 at bytes x fits e =
    let a = bind_ok (number_at order w16 short at bytes) (λ y. Ok (an_int16 (cast_signed w16 y.0), y.1, y.2)) x e in
    let n = number_takes order w16 (2 ^ 16) (written_back_16 order) short at bytes a.0 fits a.1 in
    let same : number_spelling order w16 at a.0.0 ≡ number_spelling order w16 at (cast_unsigned w16 (cast_signed w16 a.0.0)) = ap (number_spelling order w16 at) (sym (of_z-to_z w16 a.0.0 n.0)) in
    subst (TookBasic order at of_type.Int16 bytes) (ok_is (an_int16 (cast_signed w16 a.0.0), a.0.1, a.0.2) x a.2) (number_spelling order w16 at a.0.0, (refl, signed_16 a.0.0 n.0, same), n.1, n.2)
basic_takes order short of_type.Uint16 at bytes x fits e =
    let a = bind_ok (number_at order w16 short at bytes) (λ y. Ok (a_uint16 y.0, y.1, y.2)) x e in
    let n = number_takes order w16 (2 ^ 16) (written_back_16 order) short at bytes a.0 fits a.1 in
    subst (TookBasic order at of_type.Uint16 bytes) (ok_is (a_uint16 a.0.0, a.0.1, a.0.2) x a.2) (number_spelling order w16 at a.0.0, (refl, n.0, refl), n.1, n.2)
basic_takes order short of_type.Int32 at bytes x fits e =
    let a = bind_ok (number_at order w32 short at bytes) (λ y. Ok (an_int32 (cast_signed w32 y.0), y.1, y.2)) x e in
    let n = number_takes order w32 (2 ^ 32) (written_back_32 order) short at bytes a.0 fits a.1 in
    let same : number_spelling order w32 at a.0.0 ≡ number_spelling order w32 at (cast_unsigned w32 (cast_signed w32 a.0.0)) = ap (number_spelling order w32 at) (sym (of_z-to_z w32 a.0.0 n.0)) in
    subst (TookBasic order at of_type.Int32 bytes) (ok_is (an_int32 (cast_signed w32 a.0.0), a.0.1, a.0.2) x a.2) (number_spelling order w32 at a.0.0, (refl, signed_32 a.0.0 n.0, same), n.1, n.2)
basic_takes order short of_type.Uint32 at bytes x fits e =
    let a = bind_ok (number_at order w32 short at bytes) (λ y. Ok (a_uint32 y.0, y.1, y.2)) x e in
    let n = number_takes order w32 (2 ^ 32) (written_back_32 order) short at bytes a.0 fits a.1 in
    subst (TookBasic order at of_type.Uint32 bytes) (ok_is (a_uint32 a.0.0, a.0.1, a.0.2) x a.2) (number_spelling order w32 at a.0.0, (refl, n.0, refl), n.1, n.2)
basic_takes order short of_type.Int64 at bytes x fits e =
    let a = bind_ok (number_at order w64 short at bytes) (λ y. Ok (an_int64 (cast_signed w64 y.0), y.1, y.2)) x e in
    let n = number_takes order w64 (2 ^ 64) (written_back_64 order) short at bytes a.0 fits a.1 in
    let same : number_spelling order w64 at a.0.0 ≡ number_spelling order w64 at (cast_unsigned w64 (cast_signed w64 a.0.0)) = ap (number_spelling order w64 at) (sym (of_z-to_z w64 a.0.0 n.0)) in
    subst (TookBasic order at of_type.Int64 bytes) (ok_is (an_int64 (cast_signed w64 a.0.0), a.0.1, a.0.2) x a.2) (number_spelling order w64 at a.0.0, (refl, signed_64 a.0.0 n.0, same), n.1, n.2)
basic_takes order short of_type.Uint64 at bytes x fits e =
    let a = bind_ok (number_at order w64 short at bytes) (λ y. Ok (a_uint64 y.0, y.1, y.2)) x e in
    let n = number_takes order w64 (2 ^ 64) (written_back_64 order) short at bytes a.0 fits a.1 in
    subst (TookBasic order at of_type.Uint64 bytes) (ok_is (a_uint64 a.0.0, a.0.1, a.0.2) x a.2) (number_spelling order w64 at a.0.0, (refl, n.0, refl), n.1, n.2)
basic_takes order short of_type.Double at bytes x fits e =
    let a = bind_ok (fixed_at 8 short at bytes) (λ y. Ok (a_double y.0, y.1, y.2)) x e in
    let f = fixed_takes 8 short at bytes a.0 a.1 in
    subst (TookBasic order at of_type.Double bytes) (ok_is (a_double a.0.0, a.0.1, a.0.2) x a.2) (pads 8 at ++ a.0.0, (refl, f.0, refl), f.1, omega (arith, f.2, f.0, length-append (pads 8 at) a.0.0, length-pads 8 at))
basic_takes order short of_type.String at bytes x fits e =
    let a = bind_ok (string_at order short at bytes) (λ y. Ok (a_string y.0, y.1, y.2)) x e in
    let s = string_takes order short at bytes a.0 fits a.1 in
    subst (TookBasic order at of_type.String bytes) (ok_is (a_string a.0.0, a.0.1, a.0.2) x a.2) (text_spelling order at a.0.0, (refl, s.0, refl), s.1, s.2)
basic_takes order short of_type.ObjectPath at bytes x fits e =
    let a = bind_ok (path_at order short at bytes) (λ y. Ok (an_object_path y.0, y.1, y.2)) x e in
    let s = path_takes order short at bytes a.0 fits a.1 in
    subst (TookBasic order at of_type.ObjectPath bytes) (ok_is (an_object_path a.0.0, a.0.1, a.0.2) x a.2) (text_spelling order at a.0.0, (refl, (s.0.0, none_object_path a.0.0 s.1), refl), s.0.1, s.0.2)
basic_takes order short of_type.Signature at bytes x fits e =
    let a = bind_ok (signature_at short at bytes) (λ y. Ok (a_signature y.0, y.1, y.2)) x e in
    let s = signature_at_takes short at bytes a.0 fits a.1 in
    subst (TookBasic order at of_type.Signature bytes) (ok_is (a_signature a.0.0, a.0.1, a.0.2) x a.2) (signature_spelling a.0.0, (refl, s.0, refl), s.1, s.2)
