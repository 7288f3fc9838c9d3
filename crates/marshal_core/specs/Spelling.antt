-- What bytes spell which values, after "Marshaling (Wire Format)" of the D-Bus Specification.
use Rattle.std.specs.Prelude.{◌≡◌, ℕ, ◌+◌, ◌-◌, ◌%◌, ◌<◌, ◌≤◌, ◌^◌, Bool, true, false, List, [], ◌∷◌, ◌++◌, length, replicate, IsUtf8, FitsSigned}
use Rattle.std.specs.Int.{Width, w16, w32, w64, byte_len, to_le_bytes, to_be_bytes, cast_unsigned}
use Rattle.names.specs.Texts.{Text}
pub use Rattle.names.specs.Texts.{has_zero}
use Rattle.names.specs.ObjectPath.{IsObjectPath}
use Rattle.marshal_core.specs.declared.data_type.BasicType.{BasicType}
use Rattle.marshal_core.specs.declared.data_type.BasicType.TheVariants as of_type
use Rattle.marshal_core.specs.declared.order.Order.{Order}
use Rattle.marshal_core.specs.declared.order.Order.TheVariants.{Little, Big}
use Rattle.marshal_core.specs.Types.{Ty, basic, variant, array, entry, struct, Tys, no_types, more_types, one_type}
use Rattle.marshal_core.specs.Values.{BasicVal, a_byte, a_boolean, an_int16, a_uint16, an_int32, a_uint32, an_int64, a_uint64, a_double, a_string, an_object_path, a_signature, basic_type, Val, a_basic, a_variant, an_array, an_entry, a_struct, Vals, no_values, more_values}
use Rattle.marshal_core.specs.Signatures.{codes, has_types, IsSignature}

-- ---- limits

-- 2 ^ 26 bytes
abbrev pub max_array_length : ℕ
max_array_length = 67108864

-- arrays, structs, dict entries and variants about one another
abbrev pub max_container_depth : ℕ
max_container_depth = 64

-- ---- alignment

abbrev pub basic_alignment : BasicType → ℕ
basic_alignment of_type.Byte = 1
basic_alignment of_type.Boolean = 4
basic_alignment of_type.Int16 = 2
basic_alignment of_type.Uint16 = 2
basic_alignment of_type.Int32 = 4
basic_alignment of_type.Uint32 = 4
basic_alignment of_type.Int64 = 8
basic_alignment of_type.Uint64 = 8
basic_alignment of_type.Double = 8
basic_alignment of_type.String = 4
basic_alignment of_type.ObjectPath = 4
basic_alignment of_type.Signature = 1

abbrev pub alignment : Ty → ℕ
alignment (basic b) = basic_alignment b
alignment variant = 1
alignment (array t) = 4
alignment (entry k t) = 8
alignment (struct ts) = 8

-- how many bytes there are from a place to the next multiple
abbrev pub pad_len : ℕ → ℕ → ℕ
pad_len align at = (align - at % align) % align

-- the padding, zero bytes
abbrev pub pads : ℕ → ℕ → List ℕ
pads align at = replicate (pad_len align at) 0

-- ---- basic values

abbrev pub number_bytes : Order → Width → ℕ → List ℕ
number_bytes Little w n = to_le_bytes w n
number_bytes Big w n = to_be_bytes w n

-- a number of so many bits at its alignment
abbrev pub number_spelling : Order → Width → ℕ → ℕ → List ℕ
number_spelling order w at n = pads (byte_len w) at ++ number_bytes order w n

-- false is 0 and true is 1
abbrev pub boolean_number : Bool → ℕ
boolean_number false = 0
boolean_number true = 1

-- the text, and a zero byte
abbrev pub ended : Text → List ℕ
ended text = text ++ 0 ∷ []

abbrev pub text_spelling : Order → ℕ → Text → List ℕ
text_spelling order at text = number_spelling order w32 at (length text) ++ ended text

abbrev pub signature_spelling : Tys → List ℕ
signature_spelling ts = length (codes ts) ∷ ended (codes ts)

-- UTF-8 without zero bytes, whose length fits 32 bits
abbrev pub IsString : Text → Type 0
IsString text = (length text < 2 ^ 32) × IsUtf8 text × (has_zero text ≡ false)

-- the value is one that its type has
abbrev pub IsBasicValue : BasicVal → Type 0
IsBasicValue (a_byte n) = n < 2 ^ 8
IsBasicValue (a_boolean b) = Unit {0}
IsBasicValue (an_int16 z) = FitsSigned w16 z
IsBasicValue (a_uint16 n) = n < 2 ^ 16
IsBasicValue (an_int32 z) = FitsSigned w32 z
IsBasicValue (a_uint32 n) = n < 2 ^ 32
IsBasicValue (an_int64 z) = FitsSigned w64 z
IsBasicValue (a_uint64 n) = n < 2 ^ 64
IsBasicValue (a_double eight) = length eight ≡ 8
IsBasicValue (a_string text) = IsString text
IsBasicValue (an_object_path text) = IsString text × IsObjectPath text
IsBasicValue (a_signature ts) = IsSignature ts

-- the bytes of a basic value at a place; signed numbers are in two's complement, a double's bytes stand as they are
abbrev pub basic_spelling : Order → ℕ → BasicVal → List ℕ
basic_spelling order at (a_byte n) = n ∷ []
basic_spelling order at (a_boolean b) = number_spelling order w32 at (boolean_number b)
basic_spelling order at (an_int16 z) = number_spelling order w16 at (cast_unsigned w16 z)
basic_spelling order at (a_uint16 n) = number_spelling order w16 at n
basic_spelling order at (an_int32 z) = number_spelling order w32 at (cast_unsigned w32 z)
basic_spelling order at (a_uint32 n) = number_spelling order w32 at n
basic_spelling order at (an_int64 z) = number_spelling order w64 at (cast_unsigned w64 z)
basic_spelling order at (a_uint64 n) = number_spelling order w64 at n
basic_spelling order at (a_double eight) = pads 8 at ++ eight
basic_spelling order at (a_string text) = text_spelling order at text
basic_spelling order at (an_object_path text) = text_spelling order at text
basic_spelling order at (a_signature ts) = signature_spelling ts

-- The bytes spell the basic value of the type.
abbrev pub SpellBasic : BasicVal → Order → ℕ → BasicType → List ℕ → Type 0
SpellBasic v order at b bytes = (basic_type v ≡ b) × IsBasicValue v × (bytes ≡ basic_spelling order at v)

-- ---- values

-- the place after the length of an array, and that of its first element, which has its padding even where there is none
abbrev pub after_length : ℕ → ℕ
after_length at = at + pad_len 4 at + 4

abbrev pub first_place : Ty → ℕ → ℕ
first_place t at = after_length at + pad_len (alignment t) (after_length at)

-- The bytes spell the value of the type, at a place and with room for so many containers about one another.
abbrev mutual
  pub SpellValue : Val → ℕ → Order → ℕ → Ty → List ℕ → Type 0
  SpellValue (a_basic v) depth order at (basic b) bytes = SpellBasic v order at b bytes
  SpellValue (a_variant v) depth order at variant bytes =
      (0 < depth) × (t : Ty) × (inside : List ℕ) × IsSignature (one_type t)
      × SpellValue v (depth - 1) order (at + length (signature_spelling (one_type t))) t inside
      × (bytes ≡ signature_spelling (one_type t) ++ inside)
  SpellValue (an_array u vs) depth order at (array t) bytes =
      (0 < depth) × (u ≡ t) × (inside : List ℕ) × (length inside ≤ max_array_length)
      × SpellElements vs (depth - 1) order (first_place t at) t inside
      × (bytes ≡ number_spelling order w32 at (length inside) ++ (pads (alignment t) (after_length at) ++ inside))
  SpellValue (an_entry k v) depth order at (entry b t) bytes =
      (0 < depth) × (key : List ℕ) × (inside : List ℕ) × SpellBasic k order (at + pad_len 8 at) b key
      × SpellValue v (depth - 1) order (at + pad_len 8 at + length key) t inside
      × (bytes ≡ pads 8 at ++ (key ++ inside))
  SpellValue (a_struct vs) depth order at (struct ts) bytes =
      (0 < depth) × (has_types ts ≡ true) × (inside : List ℕ)
      × SpellFields vs (depth - 1) order (at + pad_len 8 at) ts inside
      × (bytes ≡ pads 8 at ++ inside)
  SpellValue v depth order at t bytes = ⊥

  -- one after the other, all of one type
  pub SpellElements : Vals → ℕ → Order → ℕ → Ty → List ℕ → Type 0
  SpellElements no_values depth order at t bytes = bytes ≡ []
  SpellElements (more_values v vs) depth order at t bytes =
      (first : List ℕ) × (others : List ℕ) × SpellValue v depth order at t first
      × SpellElements vs depth order (at + length first) t others
      × (bytes ≡ first ++ others)

  -- one after the other, each of its type
  pub SpellFields : Vals → ℕ → Order → ℕ → Tys → List ℕ → Type 0
  SpellFields no_values depth order at no_types bytes = bytes ≡ []
  SpellFields (more_values v vs) depth order at (more_types t ts) bytes =
      (first : List ℕ) × (others : List ℕ) × SpellValue v depth order at t first
      × SpellFields vs depth order (at + length first) ts others
      × (bytes ≡ first ++ others)
  SpellFields vs depth order at ts bytes = ⊥

-- The bytes spell the values of the types, in this byte order, where they begin at this offset of the message.
abbrev pub Spells : Order → ℕ → Tys → Vals → List ℕ → Type 0
Spells order offset ts vs bytes = IsSignature ts × SpellFields vs max_container_depth order offset ts bytes
