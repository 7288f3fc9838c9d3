-- A basic value that is spelled is read, whatever follows.
use Rattle.std.proofs.Common.{◌≡◌, ℕ, zero, suc, ◌+◌, ◌<◌, ◌^◌, Bool, true, false, eqb, ltb, leb, List, [], ◌∷◌, ◌++◌, length, get_or, take, drop, None, Ok, refl, append_assoc, arith, lit<}
use Rattle.std.specs.Prelude.{replicate, ◌||◌}
use Rattle.std.specs.Int.{Width, w16, w32, w64, byte_len, cast_unsigned}
use Rattle.std.proofs.lemmas.Str.{is_utf8-from_IsUtf8}
use Rattle.std.proofs.lemmas.Int.{to_z-of_z}
use Rattle.std.proofs.lemmas.Bool.{le-ltb}
use Rattle.std.proofs.lemmas.List.{take_at, drop_at, get_or_at, length-append, length-replicate}
use Rattle.names.specs.ObjectPath.{object_path_fault}
use Rattle.names.proofs.Faults.{object_path_none}
use Rattle.marshal_core.specs.declared.data_type.BasicType.{BasicType}
use Rattle.marshal_core.specs.declared.fault.MarshalFault.{MarshalFault}
use Rattle.marshal_core.specs.declared.order.Order.{Order}
use Rattle.marshal_core.specs.declared.data_type.BasicType.TheVariants as of_type
use Rattle.marshal_core.specs.Types.{Ty, basic, variant, array, entry, struct, Tys, no_types, more_types}
use Rattle.marshal_core.specs.Values.{BasicVal, a_byte, a_boolean, an_int16, a_uint16, an_int32, a_uint32, an_int64, a_uint64, a_double, a_string, an_object_path, a_signature, basic_type}
use Rattle.marshal_core.specs.Signatures.{basic_code, code, codes, IsSignature}
use Rattle.marshal_core.specs.Spelling.{pad_len, pads, number_bytes, number_spelling, boolean_number, ended, text_spelling, signature_spelling, has_zero, IsString, IsBasicValue, basic_spelling, SpellBasic}
use Rattle.marshal_core.specs.Reading.{zeros_at, padding_at, fixed_at, number_at, byte_at, boolean_at, content_at, string_at, path_at, short_text_at, signature_at, basic_at}
use Rattle.marshal_core.proofs.Results.{leb_false}
use Rattle.marshal_core.proofs.TypesAgain.{signature_again}
use Rattle.marshal.proofs.Numbers.{IsReadBack, read_back_16, read_back_32, read_back_64, unsigned_16, unsigned_32, unsigned_64}

-- ---- padding and numbers

zeros_again : (n : ℕ) (short : MarshalFault) (rest : List ℕ) → zeros_at n short (replicate n 0 ++ rest) ≡ Ok rest
unfolding zeros_at
zeros_again zero short rest = refl
zeros_again (suc n) short rest = zeros_again n short rest

pub padding_again : (align : ℕ) (short : MarshalFault) (at : ℕ) (rest : List ℕ) → padding_at align short at (pads align at ++ rest) ≡ Ok (at + pad_len align at, rest)
unfolding padding_at
padding_again align short at rest = rw (zeros_again (pad_len align at) short rest) refl

pub length-pads : (align at : ℕ) → length (pads align at) ≡ pad_len align at
length-pads align at = length-replicate (pad_len align at) 0

pub fixed_again : (size : ℕ) (short : MarshalFault) (at : ℕ) (content rest : List ℕ) → length content ≡ size → fixed_at size short at ((pads size at ++ content) ++ rest) ≡ Ok (content, at + pad_len size at + size, rest)
unfolding fixed_at
fixed_again size short at content rest len =
    let g : (pads size at ++ content) ++ rest ≡ pads size at ++ (content ++ rest) = append_assoc (pads size at) content rest in
    let long : ltb (length (content ++ rest)) size ≡ false = le-ltb _ _ (omega (arith, len, length-append content rest)) in
    rw (g, padding_again size short at (content ++ rest), long, take_at content rest size len, drop_at content rest size len) refl

pub number_again : (order : Order) (w : Width) (short : MarshalFault) (at n : ℕ) (rest : List ℕ) → IsReadBack order w n → number_at order w short at (number_spelling order w at n ++ rest) ≡ Ok (n, at + pad_len (byte_len w) at + byte_len w, rest)
unfolding number_at
number_again order w short at n rest h = rw (fixed_again (byte_len w) short at (number_bytes order w n) rest h.0, h.1) refl

pub length-number : (order : Order) (w : Width) (at n : ℕ) → IsReadBack order w n → length (number_spelling order w at n) ≡ pad_len (byte_len w) at + byte_len w
length-number order w at n h = omega (arith, length-append (pads (byte_len w) at) (number_bytes order w n), length-pads (byte_len w) at, h.0)

-- ---- texts

pub content_again : (short : MarshalFault) (at : ℕ) (cs rest : List ℕ) → has_zero cs ≡ false → content_at short (length cs) at (ended cs ++ rest) ≡ Ok (cs, at + length cs + 1, rest)
unfolding content_at
content_again short at cs rest clean =
    let g : (cs ++ 0 ∷ []) ++ rest ≡ cs ++ (0 ∷ rest) = append_assoc cs (0 ∷ []) rest in
    let d : drop (length cs + 1) ((cs ++ 0 ∷ []) ++ rest) ≡ rest = drop_at (cs ++ 0 ∷ []) rest (length cs + 1) (length-append cs (0 ∷ [])) in
    let last : get_or ((cs ++ 0 ∷ []) ++ rest) (length cs) 0 ≡ 0 = rw g (get_or_at cs 0 rest 0 (length cs) refl) in
    let front : take (length cs) ((cs ++ 0 ∷ []) ++ rest) ≡ cs = rw g (take_at cs (0 ∷ rest) (length cs) refl) in
    let long : leb (length ((cs ++ 0 ∷ []) ++ rest)) (length cs) ≡ false = leb_false _ _ (omega (arith, length-append (cs ++ 0 ∷ []) rest, length-append cs (0 ∷ []))) in
    rw (long, front, clean, last, d) refl

pub string_again : (order : Order) (short : MarshalFault) (at : ℕ) (cs rest : List ℕ) → IsString cs → string_at order short at (text_spelling order at cs ++ rest) ≡ Ok (cs, at + pad_len 4 at + 4 + length cs + 1, rest)
unfolding string_at
string_again order short at cs rest h =
    rw (append_assoc (number_spelling order w32 at (length cs)) (ended cs) rest, number_again order w32 short at (length cs) (ended cs ++ rest) (read_back_32 order (length cs) h.0), content_again short (at + pad_len 4 at + 4) cs rest h.2, is_utf8-from_IsUtf8 cs h.1) refl

pub length-text : (order : Order) (at : ℕ) (cs : List ℕ) → length cs < 2 ^ 32 → length (text_spelling order at cs) ≡ pad_len 4 at + 4 + length cs + 1
length-text order at cs lt = omega (arith, length-append (number_spelling order w32 at (length cs)) (ended cs), length-number order w32 at (length cs) (read_back_32 order (length cs) lt), length-append cs (0 ∷ []))

path_again : (order : Order) (short : MarshalFault) (at : ℕ) (cs rest : List ℕ) → IsString cs → object_path_fault cs ≡ None → path_at order short at (text_spelling order at cs ++ rest) ≡ Ok (cs, at + pad_len 4 at + 4 + length cs + 1, rest)
unfolding path_at
path_again order short at cs rest h e = rw (string_again order short at cs rest h, e) refl

-- ---- signatures

neither : (a b : Bool) → (a || b) ≡ false → (a ≡ false) × (b ≡ false)
neither true b h = absurd cc
neither false b h = (refl, h)

clean_append : (xs ys : List ℕ) → has_zero xs ≡ false → has_zero ys ≡ false → has_zero (xs ++ ys) ≡ false
clean_append [] ys h k = k
clean_append (x ∷ xs) ys h k = let p = neither (eqb x 0) (has_zero xs) h in rw p.0 (clean_append xs ys p.1 k)

basic_code_clean : (b : BasicType) (rest : List ℕ) → has_zero rest ≡ false → has_zero (basic_code b ∷ rest) ≡ false
basic_code_clean of_type.Byte rest h = h
basic_code_clean of_type.Boolean rest h = h
basic_code_clean of_type.Int16 rest h = h
basic_code_clean of_type.Uint16 rest h = h
basic_code_clean of_type.Int32 rest h = h
basic_code_clean of_type.Uint32 rest h = h
basic_code_clean of_type.Int64 rest h = h
basic_code_clean of_type.Uint64 rest h = h
basic_code_clean of_type.Double rest h = h
basic_code_clean of_type.String rest h = h
basic_code_clean of_type.ObjectPath rest h = h
basic_code_clean of_type.Signature rest h = h

mutual
  code_clean : (t : Ty) → has_zero (code t) ≡ false
  code_clean (basic b) = basic_code_clean b [] refl
  code_clean variant = refl
  code_clean (array t) = code_clean t
  code_clean (entry k t) = basic_code_clean k (code t ++ 125 ∷ []) (clean_append (code t) (125 ∷ []) (code_clean t) refl)
  code_clean (struct ts) = clean_append (codes ts) (41 ∷ []) (codes_clean ts) refl

  codes_clean : (ts : Tys) → has_zero (codes ts) ≡ false
  codes_clean no_types = refl
  codes_clean (more_types t ts) = clean_append (code t) (codes ts) (code_clean t) (codes_clean ts)

pub short_text_again : (short : MarshalFault) (at : ℕ) (ts : Tys) (rest : List ℕ) → short_text_at short at (signature_spelling ts ++ rest) ≡ Ok (codes ts, at + 1 + length (codes ts) + 1, rest)
unfolding short_text_at byte_at
short_text_again short at ts rest = rw (content_again short (at + 1) (codes ts) rest (codes_clean ts)) refl

signature_at_again : (short : MarshalFault) (at : ℕ) (ts : Tys) (rest : List ℕ) → IsSignature ts → signature_at short at (signature_spelling ts ++ rest) ≡ Ok (ts, at + 1 + length (codes ts) + 1, rest)
unfolding signature_at
signature_at_again short at ts rest h = rw (short_text_again short at ts rest, signature_again ts h) refl

pub length-signature : (ts : Tys) → length (signature_spelling ts) ≡ length (codes ts) + 2
length-signature ts = omega (arith, length-append (codes ts) (0 ∷ []))

-- ---- basic values

abbrev IsAgain : Order → MarshalFault → ℕ → BasicVal → List ℕ → Type 0
IsAgain order short at v rest = basic_at order short (basic_type v) at (basic_spelling order at v ++ rest) ≡ Ok (v, at + length (basic_spelling order at v), rest)

boolean_again : (order : Order) (short : MarshalFault) (at : ℕ) (b : Bool) (rest : List ℕ) → boolean_at order short at (number_spelling order w32 at (boolean_number b) ++ rest) ≡ Ok (b, at + pad_len 4 at + 4, rest)
unfolding boolean_at
boolean_again order short at true rest = rw (number_again order w32 short at 1 rest (read_back_32 order 1 (lit< tt))) refl
boolean_again order short at false rest = rw (number_again order w32 short at 0 rest (read_back_32 order 0 (lit< tt))) refl

boolean_small : (b : Bool) → boolean_number b < 2 ^ 32
boolean_small true = lit< tt
boolean_small false = lit< tt

-- how far a number reaches
reach : (order : Order) (w : Width) (at n : ℕ) → IsReadBack order w n → at + pad_len (byte_len w) at + byte_len w ≡ at + length (number_spelling order w at n)
reach order w at n h = omega (arith, length-number order w at n h)

pub basic_again : (v : BasicVal) (order : Order) (short : MarshalFault) (at : ℕ) (rest : List ℕ) → IsBasicValue v → IsAgain order short at v rest
unfolding basic_at byte_at
basic_again (a_byte n) order short at rest h = refl
basic_again (a_boolean b) order short at rest h =
    rw (boolean_again order short at b rest, reach order w32 at (boolean_number b) (read_back_32 order (boolean_number b) (boolean_small b))) refl
basic_again (an_int16 z) order short at rest h =
    let back = read_back_16 order (cast_unsigned w16 z) (unsigned_16 z h) in
    rw (number_again order w16 short at (cast_unsigned w16 z) rest back, to_z-of_z w16 z h, reach order w16 at (cast_unsigned w16 z) back) refl
basic_again (a_uint16 n) order short at rest h =
    let back = read_back_16 order n h in
    rw (number_again order w16 short at n rest back, reach order w16 at n back) refl
basic_again (an_int32 z) order short at rest h =
    let back = read_back_32 order (cast_unsigned w32 z) (unsigned_32 z h) in
    rw (number_again order w32 short at (cast_unsigned w32 z) rest back, to_z-of_z w32 z h, reach order w32 at (cast_unsigned w32 z) back) refl
basic_again (a_uint32 n) order short at rest h =
    let back = read_back_32 order n h in
    rw (number_again order w32 short at n rest back, reach order w32 at n back) refl
basic_again (an_int64 z) order short at rest h =
    let back = read_back_64 order (cast_unsigned w64 z) (unsigned_64 z h) in
    rw (number_again order w64 short at (cast_unsigned w64 z) rest back, to_z-of_z w64 z h, reach order w64 at (cast_unsigned w64 z) back) refl
basic_again (a_uint64 n) order short at rest h =
    let back = read_back_64 order n h in
    rw (number_again order w64 short at n rest back, reach order w64 at n back) refl
basic_again (a_double eight) order short at rest h =
    let len : at + pad_len 8 at + 8 ≡ at + length (pads 8 at ++ eight) = omega (arith, length-append (pads 8 at) eight, length-pads 8 at, h) in
    rw (fixed_again 8 short at eight rest h, len) refl
basic_again (a_string text) order short at rest h =
    let len : at + pad_len 4 at + 4 + length text + 1 ≡ at + length (text_spelling order at text) = omega (arith, length-text order at text h.0) in
    rw (string_again order short at text rest h, len) refl
basic_again (an_object_path text) order short at rest h =
    let len : at + pad_len 4 at + 4 + length text + 1 ≡ at + length (text_spelling order at text) = omega (arith, length-text order at text h.0.0) in
    rw (path_again order short at text rest h.0 (object_path_none text h.1), len) refl
basic_again (a_signature ts) order short at rest h =
    let len : at + 1 + length (codes ts) + 1 ≡ at + length (signature_spelling ts) = omega (arith, length-signature ts) in
    rw (signature_at_again short at ts rest h, len) refl

pub spelled_again : (v : BasicVal) (order : Order) (short : MarshalFault) (at : ℕ) (b : BasicType) (bs rest : List ℕ) → SpellBasic v order at b bs → basic_at order short b at (bs ++ rest) ≡ Ok (v, at + length bs, rest)
spelled_again v order short at b bs rest h = rw (← h.0, h.2) (basic_again v order short at rest h.1)

-- a basic value takes a byte at least
pub basic_nonempty : (v : BasicVal) (order : Order) (at : ℕ) → IsBasicValue v → 0 < length (basic_spelling order at v)
basic_nonempty (a_byte n) order at h = omega arith
basic_nonempty (a_boolean b) order at h = omega (arith, length-number order w32 at (boolean_number b) (read_back_32 order (boolean_number b) (boolean_small b)))
basic_nonempty (an_int16 z) order at h = omega (arith, length-number order w16 at (cast_unsigned w16 z) (read_back_16 order (cast_unsigned w16 z) (unsigned_16 z h)))
basic_nonempty (a_uint16 n) order at h = omega (arith, length-number order w16 at n (read_back_16 order n h))
basic_nonempty (an_int32 z) order at h = omega (arith, length-number order w32 at (cast_unsigned w32 z) (read_back_32 order (cast_unsigned w32 z) (unsigned_32 z h)))
basic_nonempty (a_uint32 n) order at h = omega (arith, length-number order w32 at n (read_back_32 order n h))
basic_nonempty (an_int64 z) order at h = omega (arith, length-number order w64 at (cast_unsigned w64 z) (read_back_64 order (cast_unsigned w64 z) (unsigned_64 z h)))
basic_nonempty (a_uint64 n) order at h = omega (arith, length-number order w64 at n (read_back_64 order n h))
basic_nonempty (a_double eight) order at h = omega (arith, length-append (pads 8 at) eight, h)
basic_nonempty (a_string text) order at h = omega (arith, length-text order at text h.0)
basic_nonempty (an_object_path text) order at h = omega (arith, length-text order at text h.0.0)
basic_nonempty (a_signature ts) order at h = omega arith
