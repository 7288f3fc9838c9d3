-- Header fields of basic values, byte by byte.
use Rattle.std.specs.Prelude.{◌≡◌, ℕ, ◌≤◌, List, [], ◌∷◌, ◌++◌, length, take}
use Rattle.std.specs.Int.{w32}
use Rattle.names.specs.Texts.{Text}
use Rattle.marshal_core.specs.declared.data_type.BasicType.{BasicType}
use Rattle.marshal_core.specs.declared.order.Order.{Order}
use Rattle.marshal_core.specs.Signatures.{basic_code}
use Rattle.marshal_core.specs.Values.{BasicVal, basic_type}
use Rattle.marshal_core.specs.Spelling.{basic_spelling, ended, number_bytes, IsBasicValue, IsString}
use Rattle.message_core.specs.declared.header_field.HeaderField.{HeaderField}
use Rattle.message_core.specs.Kinds.{code_of}
use Rattle.message_core.specs.HeaderFields.{IsBasicOf}

-- the value of a field stands behind its code and a signature, at a multiple of four
abbrev pub value_place : ℕ
value_place = 4

-- the first bytes are no string
abbrev pub BeginsNoString : Order → List ℕ → Type 0
BeginsNoString order bytes = (text : Text) (rest : List ℕ) → IsString text → bytes ≡ number_bytes order w32 (length text) ++ (ended text ++ rest) → ⊥

-- a basic value that the field takes
pub record TakesBasic (k : HeaderField) (v : BasicVal) : Type 0 where
  pub is_value : IsBasicValue v
  pub taken : IsBasicOf k v

-- The first bytes are a value of the type that the field takes.
pub record BeginsValue (order : Order) (k : HeaderField) (b : BasicType) (bytes : List ℕ) (n : ℕ) : Type 0 where
  pub value : BasicVal
  pub typed : basic_type value ≡ b
  pub takes : TakesBasic k value
  pub within : n ≤ length bytes
  pub spelled : take n bytes ≡ basic_spelling order value_place value

-- the first bytes are no value of the type that the field takes
abbrev pub BeginsNoValue : Order → HeaderField → BasicType → List ℕ → Type 0
BeginsNoValue order k b bytes =
    (v : BasicVal) (rest : List ℕ) → basic_type v ≡ b → TakesBasic k v → bytes ≡ basic_spelling order value_place v ++ rest → ⊥

-- A field at a multiple of eight: its code, the signature of one basic type, and the value.
abbrev pub basic_field : Order → ℕ → BasicVal → List ℕ
basic_field order code v = (code ∷ 1 ∷ basic_code (basic_type v) ∷ 0 ∷ []) ++ basic_spelling order value_place v

-- The first bytes are the field with a value that it takes.
pub record BeginsBasic (order : Order) (k : HeaderField) (bytes : List ℕ) (n : ℕ) : Type 0 where
  pub value : BasicVal
  pub takes : TakesBasic k value
  pub within : n ≤ length bytes
  pub spelled : take n bytes ≡ basic_field order (code_of k) value

-- the first bytes are not the field with a value that it takes
abbrev pub BeginsNoBasic : Order → HeaderField → List ℕ → Type 0
BeginsNoBasic order k bytes = (v : BasicVal) (rest : List ℕ) → TakesBasic k v → bytes ≡ basic_field order (code_of k) v ++ rest → ⊥
