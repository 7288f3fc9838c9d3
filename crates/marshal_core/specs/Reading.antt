-- Reading from left to right, with the first fault that is met, after "Marshaling (Wire Format)" of the D-Bus Specification.
-- In each reader `short` is the fault where the bytes end too early.
use Rattle.std.specs.Prelude.{ℕ, zero, suc, ◌+◌, ◌-◌, ◌%◌, Bool, true, false, List, [], ◌∷◌, length, take, drop, slice_index, Option, Some, None, Result, Ok, Err, nat_lt, nat_le, ◌==◌, if◌then◌else◌}
use Rattle.std.specs.Int.{Width, w16, w32, w64, byte_len, from_le_bytes, from_be_bytes, cast_signed}
use Rattle.std.specs.Str.{is_utf8}
use Rattle.names.specs.Texts.{Text}
use Rattle.names.specs.declared.fault.NameFault.{NameFault}
use Rattle.names.specs.ObjectPath.{object_path_fault}
use Rattle.marshal_core.specs.declared.data_type.BasicType.{BasicType}
use Rattle.marshal_core.specs.declared.data_type.BasicType.TheVariants as of_type
use Rattle.marshal_core.specs.declared.fault.MarshalFault.{MarshalFault}
use Rattle.marshal_core.specs.declared.fault.MarshalFault.TheVariants.{Truncated, Padding, Boolean, Utf8, NulInText, Path, Signature, ArrayLength, Depth}
use Rattle.marshal_core.specs.declared.order.Order.{Order}
use Rattle.marshal_core.specs.declared.order.Order.TheVariants.{Little, Big}
use Rattle.marshal_core.specs.Types.{Ty, basic, variant, array, entry, struct, Tys, no_types, more_types}
use Rattle.marshal_core.specs.Values.{BasicVal, a_byte, a_boolean, an_int16, a_uint16, an_int32, a_uint32, an_int64, a_uint64, a_double, a_string, an_object_path, a_signature, Val, a_basic, a_variant, an_array, an_entry, a_struct, Vals, no_values, more_values}
use Rattle.marshal_core.specs.Faults.{◌>>=◌}
use Rattle.marshal_core.specs.Signatures.{has_types, signature_of, variant_type_of}
use Rattle.marshal_core.specs.Spelling.{alignment, pad_len, has_zero, max_array_length, max_container_depth}

-- What is read at a place is something, the place after it and the bytes there.
abbrev pub Field : Type 0 → Type 0
Field A = Result (A × ℕ × List ℕ) MarshalFault

abbrev pub as_a : {A B : Type 0} → (A → B) → Field A → Field B
as_a make read = read >>= λ x. Ok (make x.0, x.1, x.2)

abbrev pub Reader : Type 0
Reader = MarshalFault → Ty → ℕ → List ℕ → Field Val

-- ---- padding and numbers

-- so many zero bytes
unfoldable pub zeros_at : ℕ → MarshalFault → List ℕ → Result (List ℕ) MarshalFault
zeros_at zero short bytes = Ok bytes
zeros_at (suc n) short [] = Err short
zeros_at (suc n) short (zero ∷ bytes) = zeros_at n short bytes
zeros_at (suc n) short (suc b ∷ bytes) = Err Padding

unfoldable pub padding_at : ℕ → MarshalFault → ℕ → List ℕ → Result (ℕ × List ℕ) MarshalFault
padding_at align short at bytes = do
  rest ← zeros_at (pad_len align at) short bytes
  Ok (at + pad_len align at, rest)

-- so many bytes, aligned to their number
unfoldable pub fixed_at : ℕ → MarshalFault → ℕ → List ℕ → Field (List ℕ)
fixed_at size short at bytes = do
  p ← padding_at size short at bytes
  if nat_lt (length p.1) size then Err short else Ok (take size p.1, p.0 + size, drop size p.1)

abbrev pub number : Order → Width → List ℕ → ℕ
number Little w bytes = from_le_bytes w bytes
number Big w bytes = from_be_bytes w bytes

unfoldable pub number_at : Order → Width → MarshalFault → ℕ → List ℕ → Field ℕ
number_at order w short at bytes = as_a (number order w) (fixed_at (byte_len w) short at bytes)

unfoldable pub byte_at : MarshalFault → ℕ → List ℕ → Field ℕ
byte_at short at [] = Err short
byte_at short at (b ∷ bytes) = Ok (b, at + 1, bytes)

abbrev pub boolean_of : ℕ × ℕ × List ℕ → Field Bool
boolean_of x =
    if x.0 == 0 then Ok (false, x.1, x.2)
    else if x.0 == 1 then Ok (true, x.1, x.2)
    else Err Boolean

unfoldable pub boolean_at : Order → MarshalFault → ℕ → List ℕ → Field Bool
boolean_at order short at bytes = number_at order w32 short at bytes >>= boolean_of

-- ---- texts

-- a text of known length without zero bytes, and the zero byte that ends it
unfoldable pub content_at : MarshalFault → ℕ → ℕ → List ℕ → Field Text
content_at short n at bytes =
    if nat_le (length bytes) n then Err short
    else if has_zero (take n bytes) then Err NulInText
    else if slice_index bytes n == 0 then Ok (take n bytes, at + n + 1, drop (n + 1) bytes)
    else Err NulInText

unfoldable pub string_at : Order → MarshalFault → ℕ → List ℕ → Field Text
string_at order short at bytes = do
  n ← number_at order w32 short at bytes
  text ← content_at short n.0 n.1 n.2
  if is_utf8 text.0 then Ok text else Err Utf8

abbrev pub unless_faulty : {A : Type 0} → A → Option NameFault → Result A MarshalFault
unless_faulty x None = Ok x
unless_faulty x (Some fault) = Err Path

unfoldable pub path_at : Order → MarshalFault → ℕ → List ℕ → Field Text
path_at order short at bytes = do
  text ← string_at order short at bytes
  unless_faulty text (object_path_fault text.0)

unfoldable pub short_text_at : MarshalFault → ℕ → List ℕ → Field Text
short_text_at short at bytes = do
  n ← byte_at short at bytes
  content_at short n.0 n.1 n.2

unfoldable pub signature_at : MarshalFault → ℕ → List ℕ → Field Tys
signature_at short at bytes = do
  text ← short_text_at short at bytes
  ts ← signature_of text.0
  Ok (ts, text.1, text.2)

-- the signature of a variant, which has one type
unfoldable pub variant_type_at : MarshalFault → ℕ → List ℕ → Field Ty
variant_type_at short at bytes = do
  text ← short_text_at short at bytes
  t ← variant_type_of text.0
  Ok (t, text.1, text.2)

-- ---- values

unfoldable pub basic_at : Order → MarshalFault → BasicType → ℕ → List ℕ → Field BasicVal
basic_at order short of_type.Byte at bytes = as_a a_byte (byte_at short at bytes)
basic_at order short of_type.Boolean at bytes = as_a a_boolean (boolean_at order short at bytes)
basic_at order short of_type.Int16 at bytes = as_a (λ n. an_int16 (cast_signed w16 n)) (number_at order w16 short at bytes)
basic_at order short of_type.Uint16 at bytes = as_a a_uint16 (number_at order w16 short at bytes)
basic_at order short of_type.Int32 at bytes = as_a (λ n. an_int32 (cast_signed w32 n)) (number_at order w32 short at bytes)
basic_at order short of_type.Uint32 at bytes = as_a a_uint32 (number_at order w32 short at bytes)
basic_at order short of_type.Int64 at bytes = as_a (λ n. an_int64 (cast_signed w64 n)) (number_at order w64 short at bytes)
basic_at order short of_type.Uint64 at bytes = as_a a_uint64 (number_at order w64 short at bytes)
basic_at order short of_type.Double at bytes = as_a a_double (fixed_at 8 short at bytes)
basic_at order short of_type.String at bytes = as_a a_string (string_at order short at bytes)
basic_at order short of_type.ObjectPath at bytes = as_a an_object_path (path_at order short at bytes)
basic_at order short of_type.Signature at bytes = as_a a_signature (signature_at short at bytes)

-- the elements of an array, to the end of its bytes; the number bounds how many
unfoldable pub elements_at : Reader → Ty → ℕ → ℕ → List ℕ → Result Vals MarshalFault
elements_at read t k at [] = Ok no_values
elements_at read t zero at (b ∷ bytes) = Err ArrayLength
elements_at read t (suc k) at (b ∷ bytes) = do
  v ← read ArrayLength t at (b ∷ bytes)
  vs ← elements_at read t k v.1 v.2
  Ok (more_values v.0 vs)

-- values one after the other, each of its type
unfoldable pub fields_at : Reader → MarshalFault → Tys → ℕ → List ℕ → Field Vals
fields_at read short no_types at bytes = Ok (no_values, at, bytes)
fields_at read short (more_types t ts) at bytes = do
  v ← read short t at bytes
  vs ← fields_at read short ts v.1 v.2
  Ok (more_values v.0 vs.0, vs.1, vs.2)

unfoldable pub variant_at : Reader → MarshalFault → ℕ → List ℕ → Field Val
variant_at read short at bytes = do
  t ← variant_type_at short at bytes
  v ← read short t.0 t.1 t.2
  Ok (a_variant v.0, v.1, v.2)

-- Where the first element stands, and the bytes of all elements, after a length. It is judged before its padding:
-- that the array is not too long, and ends where there still are bytes.
unfoldable pub sized_at : MarshalFault → ℕ → ℕ → ℕ → List ℕ → Field (ℕ × List ℕ)
sized_at short align n at bytes =
    if nat_lt max_array_length n then Err ArrayLength
    else if nat_lt (length bytes) (pad_len align at + n) then Err short
    else (padding_at align short at bytes >>= λ p. Ok ((p.0, take n p.1), p.0 + n, drop n p.1))

unfoldable pub inside_at : Order → MarshalFault → ℕ → ℕ → List ℕ → Field (ℕ × List ℕ)
inside_at order short align at bytes = do
  n ← number_at order w32 short at bytes
  sized_at short align n.0 n.1 n.2

unfoldable pub array_at : Reader → Order → MarshalFault → Ty → ℕ → List ℕ → Field Val
array_at read order short t at bytes = do
  inside ← inside_at order short (alignment t) at bytes
  vs ← elements_at read t (length inside.0.1) inside.0.0 inside.0.1
  Ok (an_array t vs, inside.1, inside.2)

unfoldable pub entry_at : Reader → Order → MarshalFault → BasicType → Ty → ℕ → List ℕ → Field Val
entry_at read order short b t at bytes = do
  p ← padding_at 8 short at bytes
  k ← basic_at order short b p.0 p.1
  v ← read short t k.1 k.2
  Ok (an_entry k.0 v.0, v.1, v.2)

unfoldable pub struct_fields_at : Reader → MarshalFault → Tys → ℕ → List ℕ → Field Val
struct_fields_at read short ts at bytes = do
  p ← padding_at 8 short at bytes
  vs ← fields_at read short ts p.0 p.1
  Ok (a_struct vs.0, vs.1, vs.2)

unfoldable pub struct_at : Reader → MarshalFault → Tys → ℕ → List ℕ → Field Val
struct_at read short ts at bytes = if has_types ts then struct_fields_at read short ts at bytes else Err Signature

-- one value, with how containers read what stands in them; where there is no such reader, a container is one too many
unfoldable pub layer : Option Reader → Order → Reader
layer inner order short (basic b) at bytes = as_a a_basic (basic_at order short b at bytes)
layer None order short variant at bytes = Err Depth
layer None order short (array t) at bytes = Err Depth
layer None order short (entry b t) at bytes = Err Depth
layer None order short (struct ts) at bytes = Err Depth
layer (Some read) order short variant at bytes = variant_at read short at bytes
layer (Some read) order short (array t) at bytes = array_at read order short t at bytes
layer (Some read) order short (entry b t) at bytes = entry_at read order short b t at bytes
layer (Some read) order short (struct ts) at bytes = struct_at read short ts at bytes

-- a value with so many containers about one another at most
unfoldable pub value_at : ℕ → Order → Reader
value_at zero order = layer None order
value_at (suc depth) order = layer (Some (value_at depth order)) order

-- The values of the types, and how many bytes they take. Padding depends on the remainder of the offset by 8 alone.
abbrev pub decode_at : Order → Tys → ℕ → List ℕ → Result (Vals × ℕ) MarshalFault
decode_at order ts offset bytes = fields_at (value_at max_container_depth order) Truncated ts (offset % 8) bytes >>= λ x. Ok (x.0, x.1 - offset % 8)

-- these values, in so many bytes
abbrev pub decoded : Vals → ℕ → Result (Vals × ℕ) MarshalFault
decoded vs used = Ok (vs, used)
