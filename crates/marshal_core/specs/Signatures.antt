-- Signatures, after "Valid Signatures" of the D-Bus Specification.
use Rattle.std.specs.Prelude.{◌≡◌, ℕ, zero, suc, ◌+◌, ◌-◌, Bool, true, false, ◌&&◌, List, [], ◌∷◌, ◌++◌, length, Option, Some, None, Result, Ok, Err, nat_lt, nat_le, ◌==◌, if◌then◌else◌}
use Rattle.marshal_core.specs.declared.data_type.BasicType.{BasicType}
use Rattle.marshal_core.specs.declared.data_type.BasicType.TheVariants as of_type
use Rattle.marshal_core.specs.declared.fault.MarshalFault.{MarshalFault}
use Rattle.marshal_core.specs.declared.fault.MarshalFault.TheVariants.{Signature, Descriptor}
use Rattle.marshal_core.specs.Types.{Ty, basic, variant, array, entry, struct, Tys, no_types, more_types}
use Rattle.marshal_core.specs.Faults.{◌>>=◌}

-- ---- the codes

abbrev pub basic_code : BasicType → ℕ
basic_code of_type.Byte = 121  -- y
basic_code of_type.Boolean = 98  -- b
basic_code of_type.Int16 = 110  -- n
basic_code of_type.Uint16 = 113  -- q
basic_code of_type.Int32 = 105  -- i
basic_code of_type.Uint32 = 117  -- u
basic_code of_type.Int64 = 120  -- x
basic_code of_type.Uint64 = 116  -- t
basic_code of_type.Double = 100  -- d
basic_code of_type.String = 115  -- s
basic_code of_type.ObjectPath = 111  -- o
basic_code of_type.Signature = 103  -- g

-- h
abbrev pub descriptor_code : ℕ
descriptor_code = 104

-- v
abbrev pub variant_code : ℕ
variant_code = 118

-- a
abbrev pub array_code : ℕ
array_code = 97

-- ( and )
abbrev pub struct_begin : ℕ
struct_begin = 40

abbrev pub struct_end : ℕ
struct_end = 41

-- { and }
abbrev pub entry_begin : ℕ
entry_begin = 123

abbrev pub entry_end : ℕ
entry_end = 125

-- a type, and types one after the other, as they stand in a signature
abbrev mutual
  pub code : Ty → List ℕ
  code (basic b) = basic_code b ∷ []
  code variant = variant_code ∷ []
  code (array t) = array_code ∷ code t
  code (entry k t) = entry_begin ∷ basic_code k ∷ (code t ++ entry_end ∷ [])
  code (struct ts) = struct_begin ∷ (codes ts ++ struct_end ∷ [])

  pub codes : Tys → List ℕ
  codes no_types = []
  codes (more_types t ts) = code t ++ codes ts

-- ---- which signatures are valid

abbrev pub max_signature_length : ℕ
max_signature_length = 255

abbrev pub max_array_nesting : ℕ
max_array_nesting = 32

abbrev pub max_struct_nesting : ℕ
max_struct_nesting = 32

abbrev pub has_types : Tys → Bool
has_types no_types = false
has_types (more_types t ts) = true

-- A type is complete, as the element of an array or elsewhere: a dict entry stands only as an array's element,
-- no struct is empty, and no more than so many arrays and so many structs stand about one another.
abbrev mutual
  pub is_complete : Bool → ℕ → ℕ → Ty → Bool
  is_complete element arrays structs (basic b) = true
  is_complete element arrays structs variant = true
  is_complete element arrays structs (array t) = nat_lt 0 arrays && is_complete true (arrays - 1) structs t
  is_complete element arrays structs (entry k t) = element && is_complete false arrays structs t
  is_complete element arrays structs (struct ts) = nat_lt 0 structs && (has_types ts && are_complete arrays (structs - 1) ts)

  pub are_complete : ℕ → ℕ → Tys → Bool
  are_complete arrays structs no_types = true
  are_complete arrays structs (more_types t ts) = is_complete false arrays structs t && are_complete arrays structs ts

-- Zero or more single complete types, and their codes are not too long.
abbrev pub is_signature : Tys → Bool
is_signature ts = are_complete max_array_nesting max_struct_nesting ts && nat_le (length (codes ts)) max_signature_length

abbrev pub IsSignature : Tys → Type 0
IsSignature ts = is_signature ts ≡ true

-- ---- reading a signature from left to right

-- What is read from a text is something and the rest of the text.
abbrev pub Parsed : Type 0 → Type 0
Parsed A = Result (A × List ℕ) MarshalFault

abbrev pub basic_types : List BasicType
basic_types = of_type.Byte ∷ of_type.Boolean ∷ of_type.Int16 ∷ of_type.Uint16 ∷ of_type.Int32 ∷ of_type.Uint32 ∷ of_type.Int64 ∷ of_type.Uint64 ∷ of_type.Double ∷ of_type.String ∷ of_type.ObjectPath ∷ of_type.Signature ∷ []

abbrev pub with_code : ℕ → List BasicType → Option BasicType
with_code c [] = None
with_code c (b ∷ bs) = if c == basic_code b then Some b else with_code c bs

-- no type has this code: that of a file descriptor has a fault of its own
abbrev pub not_a_code : ℕ → MarshalFault
not_a_code c = if c == descriptor_code then Descriptor else Signature

abbrev pub basic_from : ℕ → List ℕ → Option BasicType → Parsed BasicType
basic_from c cs (Some b) = Ok (b, cs)
basic_from c cs None = Err (not_a_code c)

-- a basic type, as the key of a dict entry
unfoldable pub key_type_at : List ℕ → Parsed BasicType
key_type_at [] = Err Signature
key_type_at (c ∷ cs) = basic_from c cs (with_code c basic_types)

-- what ends a dict entry
unfoldable pub entry_end_at : List ℕ → Result (List ℕ) MarshalFault
entry_end_at [] = Err Signature
entry_end_at (c ∷ cs) = if c == entry_end then Ok cs else Err (not_a_code c)

unfoldable pub entry_type_at : (List ℕ → Parsed Ty) → List ℕ → Parsed Ty
entry_type_at read text = do
  k ← key_type_at text
  t ← read k.1
  rest ← entry_end_at t.1
  Ok (entry k.0 t.0, rest)

-- the element type of an array
unfoldable pub element_type_at : (List ℕ → Parsed Ty) → List ℕ → Parsed Ty
element_type_at read [] = read []
element_type_at read (c ∷ cs) = if c == entry_begin then entry_type_at read cs else read (c ∷ cs)

unfoldable pub array_type_at : (List ℕ → Parsed Ty) → List ℕ → Parsed Ty
array_type_at read text = element_type_at read text >>= λ t. Ok (array t.0, t.1)

-- Types one after the other: those within a struct to its end, others to the end of the text. The number bounds how many.
unfoldable pub types_at : Bool → (List ℕ → Parsed Ty) → ℕ → List ℕ → Parsed Tys
types_at inside read k [] = if inside then Err Signature else Ok (no_types, [])
types_at inside read zero (c ∷ cs) = Err Signature
types_at inside read (suc k) (c ∷ cs) =
    if inside && c == struct_end then Ok (no_types, cs)
    else (read (c ∷ cs) >>= λ t. types_at inside read k t.1 >>= λ ts. Ok (more_types t.0 ts.0, ts.1))

-- a struct has fields
abbrev pub struct_of : Tys × List ℕ → Parsed Ty
struct_of (no_types, rest) = Err Signature
struct_of (more_types t ts, rest) = Ok (struct (more_types t ts), rest)

unfoldable pub struct_type_at : (List ℕ → Parsed Ty) → List ℕ → Parsed Ty
struct_type_at read text = types_at true read (length text) text >>= struct_of

unfoldable pub basic_type_at : List ℕ → Parsed Ty
basic_type_at text = key_type_at text >>= λ b. Ok (basic b.0, b.1)

-- A single complete type, with so many arrays and so many structs about one another at most. The first number bounds both.
unfoldable pub type_at : ℕ → ℕ → ℕ → List ℕ → Parsed Ty
type_at zero arrays structs text = Err Signature
type_at (suc both) arrays structs [] = Err Signature
type_at (suc both) arrays structs (c ∷ cs) =
    if c == variant_code then Ok (variant, cs)
    else if c == array_code then (if arrays == 0 then Err Signature else array_type_at (type_at both (arrays - 1) structs) cs)
    else if c == struct_begin then (if structs == 0 then Err Signature else struct_type_at (type_at both arrays (structs - 1)) cs)
    else basic_type_at (c ∷ cs)

abbrev pub complete_type_at : List ℕ → Parsed Ty
complete_type_at = type_at (max_array_nesting + max_struct_nesting + 1) max_array_nesting max_struct_nesting

-- the types of a signature
unfoldable pub signature_of : List ℕ → Result Tys MarshalFault
signature_of text =
    if nat_lt max_signature_length (length text) then Err Signature
    else (types_at false complete_type_at (length text) text >>= λ ts. Ok ts.0)

-- nothing may follow
abbrev pub alone : Ty × List ℕ → Result Ty MarshalFault
alone (t, []) = Ok t
alone (t, c ∷ cs) = Err Signature

-- the one type of a variant's signature
unfoldable pub variant_type_of : List ℕ → Result Ty MarshalFault
variant_type_of text = complete_type_at text >>= alone
