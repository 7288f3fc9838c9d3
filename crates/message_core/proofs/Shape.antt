-- A header field of a basic value, byte by byte and as its type spells it.
use Rattle.std.proofs.Common.{◌≡◌, ℕ, ◌+◌, ◌-◌, ◌%◌, ◌<◌, List, [], ◌∷◌, ◌++◌, length, refl, sym, ap, subst, ◌∙◌, arith, lit<}
use Rattle.std.specs.Prelude.{replicate}
use Rattle.std.proofs.lemmas.List.{append-nil}
use Rattle.marshal_core.specs.declared.data_type.BasicType.TheVariants as of_type
use Rattle.marshal_core.specs.declared.order.Order.{Order}
use Rattle.marshal_core.specs.Types.{Ty, Tys, basic, variant, array, entry, struct, more_types, one_type}
use Rattle.marshal_core.specs.Values.{BasicVal, a_byte, a_boolean, an_int16, a_uint16, an_int32, a_uint32, an_int64, a_uint64, a_double, a_string, an_object_path, a_signature, basic_type, Val, a_basic, a_variant, an_array, an_entry, a_struct, Vals, no_values, more_values}
use Rattle.marshal_core.specs.Signatures.{basic_code}
use Rattle.marshal_core.specs.Spelling.{pad_len, pads, basic_spelling, signature_spelling, IsBasicValue, SpellValue, SpellFields, Spells}
use Rattle.message_core.specs.HeaderFields.{Field, field_type}
use Rattle.message_core.specs.BasicFields.{basic_field, value_place}
use Rattle.message_core.specs.Places.{SpellField, field_depth}

pads_2 : (at bt : ℕ) → at % 8 ≡ bt % 8 → pads 2 at ≡ pads 2 bt
pads_2 at bt e = ap (λ (n : ℕ). replicate n 0) (omega (arith, e))

pads_4 : (at bt : ℕ) → at % 8 ≡ bt % 8 → pads 4 at ≡ pads 4 bt
pads_4 at bt e = ap (λ (n : ℕ). replicate n 0) (omega (arith, e))

pads_8 : (at bt : ℕ) → at % 8 ≡ bt % 8 → pads 8 at ≡ pads 8 bt
pads_8 at bt e = ap (λ (n : ℕ). replicate n 0) (omega (arith, e))

-- a basic value is spelled the same wherever it stands as far from a multiple of eight
pub basic_moves : (order : Order) (v : BasicVal) (at bt : ℕ) → at % 8 ≡ bt % 8 → basic_spelling order at v ≡ basic_spelling order bt v
basic_moves order (a_byte n) at bt e = refl
basic_moves order (a_boolean b) at bt e = rw (pads_4 at bt e) refl
basic_moves order (an_int16 z) at bt e = rw (pads_2 at bt e) refl
basic_moves order (a_uint16 n) at bt e = rw (pads_2 at bt e) refl
basic_moves order (an_int32 z) at bt e = rw (pads_4 at bt e) refl
basic_moves order (a_uint32 n) at bt e = rw (pads_4 at bt e) refl
basic_moves order (an_int64 z) at bt e = rw (pads_8 at bt e) refl
basic_moves order (a_uint64 n) at bt e = rw (pads_8 at bt e) refl
basic_moves order (a_double eight) at bt e = rw (pads_8 at bt e) refl
basic_moves order (a_string text) at bt e = rw (pads_4 at bt e) refl
basic_moves order (an_object_path text) at bt e = rw (pads_4 at bt e) refl
basic_moves order (a_signature ts) at bt e = refl

-- a multiple of eight needs no padding
no_pads : (at : ℕ) → at % 8 ≡ 0 → pads 8 at ≡ []
no_pads at e = pads_8 at 0 e

no_pad_len : (at : ℕ) → at % 8 ≡ 0 → pad_len 8 at ≡ 0
no_pad_len at e = omega (arith, e)

pub basic_spelled : (order : Order) (at code : ℕ) (v : BasicVal) → at % 8 ≡ 0 → code < 256 → IsBasicValue v → SpellField order at (record { code = code; value = a_basic v }) (basic_field order code v)
basic_spelled order at code v aligned fits is =
    let place : ℕ = at + pad_len 8 at in
    let signed : List ℕ = 1 ∷ basic_code (basic_type v) ∷ 0 ∷ [] in
    let value : List ℕ = basic_spelling order value_place v in
    let moved : value ≡ basic_spelling order (place + 1 + 3) v = basic_moves order v value_place (place + 1 + 3) (omega (arith, aligned)) in (
      lit< tt,
      refl,
      basic_field order code v,
      (
        code ∷ [],
        signed ++ value,
        (refl, fits, refl),
        (signed ++ value, [], (lit< tt, basic (basic_type v), value, refl, (refl, is, moved), refl), refl, sym (append-nil (signed ++ value))),
        refl,
      ),
      ap (λ (x : List ℕ). x ++ basic_field order code v) (sym (no_pads at aligned)),
    )

abbrev pub field_parts : Field → Vals
field_parts f = more_values (a_basic (a_byte f.code)) (more_values (a_variant f.value) no_values)

abbrev pub field_part_types : Tys
field_part_types = more_types (basic of_type.Byte) (one_type variant)

abbrev FieldInside : Order → Field → List ℕ → ℕ → Type 0
FieldInside order f inside n = SpellFields (field_parts f) 62 order n field_part_types inside

pub basic_inside : (v : BasicVal) (t : Ty) (d : ℕ) (order : Order) (at : ℕ) (bytes : List ℕ) → SpellValue (a_basic v) d order at t bytes → (t ≡ basic (basic_type v)) × IsBasicValue v × (bytes ≡ basic_spelling order at v)
basic_inside v (basic b) d order at bytes h = (sym (ap basic h.0), h.1, h.2)
basic_inside v variant d order at bytes h = absurd h
basic_inside v (array t) d order at bytes h = absurd h
basic_inside v (entry k t) d order at bytes h = absurd h
basic_inside v (struct ts) d order at bytes h = absurd h

-- and the other way round
pub spelled_basic : (order : Order) (at code : ℕ) (v : BasicVal) (bytes : List ℕ) → at % 8 ≡ 0 → SpellField order at (record { code = code; value = a_basic v }) bytes → IsBasicValue v × (bytes ≡ basic_field order code v)
spelled_basic order at code v bytes aligned h =
    let second = h.3.3 in
    let boxed = second.2 in
    let place : ℕ = at + pad_len 8 at + length h.3.0 in
    let b = basic_inside v boxed.1 (field_depth - 2) order (place + length (signature_spelling (one_type boxed.1))) boxed.2 boxed.4 in
    let one : length h.3.0 ≡ 1 = ap length h.3.2.2 in
    let three : length (signature_spelling (one_type boxed.1)) ≡ 3 = ap (λ (t : Ty). length (signature_spelling (one_type t))) b.0 in
    let value : boxed.2 ≡ basic_spelling order value_place v = b.2 ∙ basic_moves order v (place + length (signature_spelling (one_type boxed.1))) value_place (omega (arith, aligned, one, three)) in
    let others : h.3.1 ≡ signature_spelling (one_type (basic (basic_type v))) ++ basic_spelling order value_place v =
    second.4 ∙ ap (λ (x : List ℕ). second.0 ++ x) second.3 ∙ append-nil second.0 ∙ boxed.5 ∙ ap (λ (t : Ty). signature_spelling (one_type t) ++ boxed.2) b.0
    ∙ ap (λ (x : List ℕ). signature_spelling (one_type (basic (basic_type v))) ++ x) value in
    (b.1, h.4 ∙ ap (λ (x : List ℕ). x ++ h.2) (no_pads at aligned) ∙ h.3.4 ∙ ap (λ (x : List ℕ). x ++ h.3.1) h.3.2.2 ∙ ap (λ (x : List ℕ). code ∷ x) others)

-- with the padding before it
pub padded_spelled : (order : Order) (at : ℕ) (f : Field) (bytes : List ℕ) → SpellField order (at + pad_len 8 at) f bytes → SpellField order at f (pads 8 at ++ bytes)
padded_spelled order at f bytes h =
    let p : ℕ = at + pad_len 8 at in
    let aligned : p % 8 ≡ 0 = omega arith in
    let whole : bytes ≡ h.2 = h.4 ∙ ap (λ (x : List ℕ). x ++ h.2) (no_pads p aligned) in
    let same : p + pad_len 8 p ≡ p = omega (arith, no_pad_len p aligned) in
    (h.0, h.1, h.2, subst (FieldInside order f h.2) same h.3, ap (λ (x : List ℕ). pads 8 at ++ x) whole)

-- its first byte is its code
pub code_first : (order : Order) (at : ℕ) (f : Field) (bytes : List ℕ) → at % 8 ≡ 0 → SpellField order at f bytes → (more : List ℕ) × (bytes ≡ f.code ∷ more)
code_first order at f bytes aligned h =
    (h.3.1, h.4 ∙ ap (λ (x : List ℕ). x ++ h.2) (no_pads at aligned) ∙ h.3.4 ∙ ap (λ (x : List ℕ). x ++ h.3.1) h.3.2.2)

-- ---- a field that is decoded within a struct

abbrev pub wrapped : Tys
wrapped = one_type (struct (one_type field_type))

byte_of : (b : BasicVal) → basic_type b ≡ of_type.Byte → (n : ℕ) × (b ≡ a_byte n)
byte_of (a_byte n) e = (n, refl)
byte_of (a_boolean n) e = absurd cc
byte_of (an_int16 n) e = absurd cc
byte_of (a_uint16 n) e = absurd cc
byte_of (an_int32 n) e = absurd cc
byte_of (a_uint32 n) e = absurd cc
byte_of (an_int64 n) e = absurd cc
byte_of (a_uint64 n) e = absurd cc
byte_of (a_double n) e = absurd cc
byte_of (a_string n) e = absurd cc
byte_of (an_object_path n) e = absurd cc
byte_of (a_signature n) e = absurd cc

two_parts : (vs : Vals) (d : ℕ) (order : Order) (at : ℕ) (bytes : List ℕ) → SpellFields vs d order at field_part_types bytes → (f : Field) × (vs ≡ field_parts f)
two_parts no_values d order at bytes h = absurd h
two_parts (more_values (a_variant x) vs) d order at bytes h = absurd h.2
two_parts (more_values (an_array t x) vs) d order at bytes h = absurd h.2
two_parts (more_values (an_entry k x) vs) d order at bytes h = absurd h.2
two_parts (more_values (a_struct x) vs) d order at bytes h = absurd h.2
two_parts (more_values (a_basic b) no_values) d order at bytes h = absurd h.3
two_parts (more_values (a_basic b) (more_values (a_basic x) vs)) d order at bytes h = absurd h.3.2
two_parts (more_values (a_basic b) (more_values (an_array t x) vs)) d order at bytes h = absurd h.3.2
two_parts (more_values (a_basic b) (more_values (an_entry k x) vs)) d order at bytes h = absurd h.3.2
two_parts (more_values (a_basic b) (more_values (a_struct x) vs)) d order at bytes h = absurd h.3.2
two_parts (more_values (a_basic b) (more_values (a_variant w) (more_values x vs))) d order at bytes h = absurd h.3.3
two_parts (more_values (a_basic b) (more_values (a_variant w) no_values)) d order at bytes h =
    let n = byte_of b h.2.0 in
    (record { code = n.0; value = w }, ap (λ (x : BasicVal). more_values (a_basic x) (more_values (a_variant w) no_values)) n.1)

field_from : (v : Val) (order : Order) (at : ℕ) (bytes : List ℕ) → SpellValue v field_depth order at field_type bytes → (f : Field) × SpellField order at f bytes
field_from (a_struct vs) order at bytes h =
    let two = two_parts vs 62 order (at + pad_len 8 at) h.2 h.3 in
    (two.0, (h.0, h.1, h.2, subst (λ (x : Vals). SpellFields x 62 order (at + pad_len 8 at) field_part_types h.2) two.1 h.3, h.4))
field_from (a_basic b) order at bytes h = absurd h
field_from (a_variant v) order at bytes h = absurd h
field_from (an_array t vs) order at bytes h = absurd h
field_from (an_entry k v) order at bytes h = absurd h

pub unwrapped : (vs : Vals) (order : Order) (at : ℕ) (bytes : List ℕ) → at % 8 ≡ 0 → Spells order at wrapped vs bytes → (f : Field) × SpellField order at f bytes
unwrapped (more_values (a_struct (more_values v no_values)) no_values) order at bytes aligned h =
    let outer = h.1.2 in
    let inner = outer.3 in
    let same : at + pad_len 8 at ≡ at = omega (arith, no_pad_len at aligned) in
    let f = field_from v order (at + pad_len 8 at) inner.0 inner.2 in
    let whole : bytes ≡ inner.0 =
    h.1.4 ∙ ap (λ (x : List ℕ). h.1.0 ++ x) h.1.3 ∙ append-nil h.1.0 ∙ outer.4 ∙ ap (λ (x : List ℕ). x ++ outer.2) (no_pads at aligned) ∙ inner.4 ∙ ap (λ (x : List ℕ). inner.0 ++ x) inner.3 ∙ append-nil inner.0 in
    (f.0, subst (λ (x : List ℕ). SpellField order at f.0 x) (sym whole) (subst (λ (n : ℕ). SpellField order n f.0 inner.0) same f.1))
unwrapped no_values order at bytes aligned h = absurd h.1
unwrapped (more_values (a_basic b) vs) order at bytes aligned h = absurd h.1.2
unwrapped (more_values (a_variant b) vs) order at bytes aligned h = absurd h.1.2
unwrapped (more_values (an_array t b) vs) order at bytes aligned h = absurd h.1.2
unwrapped (more_values (an_entry k b) vs) order at bytes aligned h = absurd h.1.2
unwrapped (more_values (a_struct no_values) vs) order at bytes aligned h = absurd h.1.2.3
unwrapped (more_values (a_struct (more_values v (more_values w ws))) vs) order at bytes aligned h = absurd h.1.2.3.3
unwrapped (more_values (a_struct (more_values v no_values)) (more_values w ws)) order at bytes aligned h = absurd h.1.3
