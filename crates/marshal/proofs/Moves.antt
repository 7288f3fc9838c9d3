-- What is spelled at a place is spelled the same at every place that is as far from a multiple of eight.
use Rattle.std.proofs.Common.{◌≡◌, ℕ, ◌-◌, ◌+◌, ◌%◌, List, ◌++◌, length, refl, ap, ◌∙◌, arith}
use Rattle.std.specs.Int.{w16, w32, w64, cast_unsigned}
use Rattle.marshal_core.specs.declared.data_type.BasicType.{BasicType}
use Rattle.marshal_core.specs.declared.data_type.BasicType.TheVariants as of_type
use Rattle.marshal_core.specs.declared.order.Order.{Order}
use Rattle.marshal_core.specs.Types.{Ty, basic, variant, array, entry, struct, Tys, no_types, more_types, one_type}
use Rattle.marshal_core.specs.Values.{BasicVal, a_byte, a_boolean, an_int16, a_uint16, an_int32, a_uint32, an_int64, a_uint64, a_double, a_string, an_object_path, a_signature, Val, a_basic, a_variant, an_array, an_entry, a_struct, Vals, no_values, more_values}
use Rattle.marshal_core.specs.Spelling.{basic_alignment, alignment, pad_len, pads, boolean_number, number_bytes, number_spelling, ended, signature_spelling, after_length, first_place, basic_spelling, SpellBasic, SpellValue, SpellElements, SpellFields}

abbrev pub Same : ℕ → ℕ → Type 0
Same at bt = at % 8 ≡ bt % 8

gap_1 : (at bt : ℕ) → Same at bt → pad_len 1 at ≡ pad_len 1 bt
gap_1 at bt e = omega (arith, e)

gap_2 : (at bt : ℕ) → Same at bt → pad_len 2 at ≡ pad_len 2 bt
gap_2 at bt e = omega (arith, e)

gap_4 : (at bt : ℕ) → Same at bt → pad_len 4 at ≡ pad_len 4 bt
gap_4 at bt e = omega (arith, e)

gap_8 : (at bt : ℕ) → Same at bt → pad_len 8 at ≡ pad_len 8 bt
gap_8 at bt e = omega (arith, e)

gap_basic : (b : BasicType) (at bt : ℕ) → Same at bt → pad_len (basic_alignment b) at ≡ pad_len (basic_alignment b) bt
gap_basic of_type.Byte at bt e = gap_1 at bt e
gap_basic of_type.Boolean at bt e = gap_4 at bt e
gap_basic of_type.Int16 at bt e = gap_2 at bt e
gap_basic of_type.Uint16 at bt e = gap_2 at bt e
gap_basic of_type.Int32 at bt e = gap_4 at bt e
gap_basic of_type.Uint32 at bt e = gap_4 at bt e
gap_basic of_type.Int64 at bt e = gap_8 at bt e
gap_basic of_type.Uint64 at bt e = gap_8 at bt e
gap_basic of_type.Double at bt e = gap_8 at bt e
gap_basic of_type.String at bt e = gap_4 at bt e
gap_basic of_type.ObjectPath at bt e = gap_4 at bt e
gap_basic of_type.Signature at bt e = gap_1 at bt e

gap : (t : Ty) (at bt : ℕ) → Same at bt → pad_len (alignment t) at ≡ pad_len (alignment t) bt
gap (basic b) at bt e = gap_basic b at bt e
gap variant at bt e = gap_1 at bt e
gap (array t) at bt e = gap_4 at bt e
gap (entry b t) at bt e = gap_8 at bt e
gap (struct ts) at bt e = gap_8 at bt e

on : (at bt n : ℕ) → Same at bt → Same (at + n) (bt + n)
on at bt n e = omega (arith, e)

on_both : (at bt m n : ℕ) → Same at bt → m ≡ n → Same (at + m) (bt + n)
on_both at bt m n e h = omega (arith, e, h)

pads_move : (align at bt : ℕ) → pad_len align at ≡ pad_len align bt → pads align at ≡ pads align bt
pads_move align at bt e = rw e refl

after_length_moves : (at bt : ℕ) → Same at bt → Same (after_length at) (after_length bt)
after_length_moves at bt e = omega (arith, e, gap_4 at bt e)

first_moves : (t : Ty) (at bt : ℕ) → Same at bt → Same (first_place t at) (first_place t bt)
first_moves t at bt e =
    let f = after_length_moves at bt e in
    on_both (after_length at) (after_length bt) (pad_len (alignment t) (after_length at)) (pad_len (alignment t) (after_length bt)) f (gap t (after_length at) (after_length bt) f)

number_16 : (order : Order) (at bt n : ℕ) → Same at bt → number_spelling order w16 at n ≡ number_spelling order w16 bt n
number_16 order at bt n e = ap (λ (p : List ℕ). p ++ number_bytes order w16 n) (pads_move 2 at bt (gap_2 at bt e))

number_32 : (order : Order) (at bt n : ℕ) → Same at bt → number_spelling order w32 at n ≡ number_spelling order w32 bt n
number_32 order at bt n e = ap (λ (p : List ℕ). p ++ number_bytes order w32 n) (pads_move 4 at bt (gap_4 at bt e))

number_64 : (order : Order) (at bt n : ℕ) → Same at bt → number_spelling order w64 at n ≡ number_spelling order w64 bt n
number_64 order at bt n e = ap (λ (p : List ℕ). p ++ number_bytes order w64 n) (pads_move 8 at bt (gap_8 at bt e))

basic_moves : (v : BasicVal) (order : Order) (at bt : ℕ) → Same at bt → basic_spelling order at v ≡ basic_spelling order bt v
basic_moves (a_byte n) order at bt e = refl
basic_moves (a_boolean b) order at bt e = number_32 order at bt (boolean_number b) e
basic_moves (an_int16 z) order at bt e = number_16 order at bt (cast_unsigned w16 z) e
basic_moves (a_uint16 n) order at bt e = number_16 order at bt n e
basic_moves (an_int32 z) order at bt e = number_32 order at bt (cast_unsigned w32 z) e
basic_moves (a_uint32 n) order at bt e = number_32 order at bt n e
basic_moves (an_int64 z) order at bt e = number_64 order at bt (cast_unsigned w64 z) e
basic_moves (a_uint64 n) order at bt e = number_64 order at bt n e
basic_moves (a_double eight) order at bt e = ap (λ (p : List ℕ). p ++ eight) (pads_move 8 at bt (gap_8 at bt e))
basic_moves (a_string text) order at bt e = ap (λ (p : List ℕ). p ++ ended text) (number_32 order at bt (length text) e)
basic_moves (an_object_path text) order at bt e = ap (λ (p : List ℕ). p ++ ended text) (number_32 order at bt (length text) e)
basic_moves (a_signature ts) order at bt e = refl

spelled_moves : (v : BasicVal) (order : Order) (at bt : ℕ) (b : BasicType) (a : List ℕ) → Same at bt → SpellBasic v order at b a → SpellBasic v order bt b a
spelled_moves v order at bt b a e h = (h.0, h.1, h.2 ∙ basic_moves v order at bt e)

mutual
  pub value_moves : (v : Val) (d : ℕ) (order : Order) (at bt : ℕ) (t : Ty) (a : List ℕ) → Same at bt → SpellValue v d order at t a → SpellValue v d order bt t a
  value_moves (a_basic v) d order at bt (basic b) a e h = spelled_moves v order at bt b a e h
  value_moves (a_variant v) d order at bt variant a e h =
      (h.0, h.1, h.2, h.3, value_moves v (d - 1) order (at + length (signature_spelling (one_type h.1))) (bt + length (signature_spelling (one_type h.1))) h.1 h.2 (on at bt (length (signature_spelling (one_type h.1))) e) h.4, h.5)
  value_moves (an_array u vs) d order at bt (array t) a e h =
      let f = after_length_moves at bt e in
      let g : pads (alignment t) (after_length at) ≡ pads (alignment t) (after_length bt) = pads_move (alignment t) (after_length at) (after_length bt) (gap t (after_length at) (after_length bt) f) in (
        h.0,
        h.1,
        h.2,
        h.3,
        elements_move vs (d - 1) order (first_place t at) (first_place t bt) t h.2 (first_moves t at bt e) h.4,
        h.5 ∙ ap (λ (x : List ℕ). x ++ (pads (alignment t) (after_length at) ++ h.2)) (number_32 order at bt (length h.2) e) ∙ ap (λ (x : List ℕ). number_spelling order w32 bt (length h.2) ++ (x ++ h.2)) g,
      )
  value_moves (an_entry k v) d order at bt (entry b t) a e h =
      let f = on_both at bt (pad_len 8 at) (pad_len 8 bt) e (gap_8 at bt e) in (
        h.0,
        h.1,
        h.2,
        spelled_moves k order (at + pad_len 8 at) (bt + pad_len 8 bt) b h.1 f h.3,
        value_moves v (d - 1) order (at + pad_len 8 at + length h.1) (bt + pad_len 8 bt + length h.1) t h.2 (on (at + pad_len 8 at) (bt + pad_len 8 bt) (length h.1) f) h.4,
        h.5 ∙ ap (λ (x : List ℕ). x ++ (h.1 ++ h.2)) (pads_move 8 at bt (gap_8 at bt e)),
      )
  value_moves (a_struct vs) d order at bt (struct ts) a e h = (
    h.0,
    h.1,
    h.2,
    fields_move vs (d - 1) order (at + pad_len 8 at) (bt + pad_len 8 bt) ts h.2 (on_both at bt (pad_len 8 at) (pad_len 8 bt) e (gap_8 at bt e)) h.3,
    h.4 ∙ ap (λ (x : List ℕ). x ++ h.2) (pads_move 8 at bt (gap_8 at bt e)),
  )
  value_moves v d order at bt t a e h = absurd h

  pub elements_move : (vs : Vals) (d : ℕ) (order : Order) (at bt : ℕ) (t : Ty) (a : List ℕ) → Same at bt → SpellElements vs d order at t a → SpellElements vs d order bt t a
  elements_move no_values d order at bt t a e h = h
  elements_move (more_values v vs) d order at bt t a e h =
      (h.0, h.1, value_moves v d order at bt t h.0 e h.2, elements_move vs d order (at + length h.0) (bt + length h.0) t h.1 (on at bt (length h.0) e) h.3, h.4)

  pub fields_move : (vs : Vals) (d : ℕ) (order : Order) (at bt : ℕ) (ts : Tys) (a : List ℕ) → Same at bt → SpellFields vs d order at ts a → SpellFields vs d order bt ts a
  fields_move no_values d order at bt no_types a e h = h
  fields_move (more_values v vs) d order at bt (more_types t ts) a e h =
      (h.0, h.1, value_moves v d order at bt t h.0 e h.2, fields_move vs d order (at + length h.0) (bt + length h.0) ts h.1 (on at bt (length h.0) e) h.3, h.4)
  fields_move vs d order at bt ts a e h = absurd h
