-- The fields of a message's header, after "Header Fields" of the D-Bus Specification.
use Rattle.std.specs.Prelude.{◌≡◌, ℕ, ◌<◌, List, [], ◌∷◌, ◌++◌, Option, Some, None, is_some, nat_le, ◌==◌, if◌then◌else◌}
use Rattle.names.specs.Texts.{Text}
use Rattle.names.specs.Interface.{IsInterface}
use Rattle.names.specs.Member.{IsMember}
use Rattle.names.specs.ErrorName.{IsErrorName}
use Rattle.names.specs.BusName.{IsBusName}
use Rattle.marshal_core.specs.declared.data_type.BasicType.TheVariants as of_type
use Rattle.marshal_core.specs.Types.{Ty, basic, variant, struct, Tys, no_types, more_types, one_type}
use Rattle.marshal_core.specs.Values.{BasicVal, a_byte, a_uint32, a_string, an_object_path, a_signature, Val, a_basic, a_variant, a_struct, no_values, more_values}
use Rattle.message_core.specs.declared.header_field.HeaderField.{HeaderField}
use Rattle.message_core.specs.declared.header_field.HeaderField.TheVariants as field
use Rattle.message_core.specs.Kinds.{code_of}

-- a field: its code and its value
pub record Field : Type 0 where
  pub code : ℕ
  pub value : Val

-- as it stands in the header: a struct of a byte and a variant
abbrev pub field_type : Ty
field_type = struct (more_types (basic of_type.Byte) (one_type variant))

abbrev pub field_value : Field → Val
field_value f = a_struct (more_values (a_basic (a_byte f.code)) (more_values (a_variant f.value) no_values))

-- ---- which values a known field takes

abbrev pub IsStringOf : HeaderField → Text → Type 0
IsStringOf field.Interface text = IsInterface text
IsStringOf field.Member text = IsMember text
IsStringOf field.ErrorName text = IsErrorName text
IsStringOf field.Destination text = IsBusName text
IsStringOf field.Sender text = IsBusName text
IsStringOf k text = ⊥

-- A reply has a serial, which is never 0. No descriptors are passed.
abbrev pub IsNumberOf : HeaderField → ℕ → Type 0
IsNumberOf field.ReplySerial n = 0 < n
IsNumberOf field.UnixFds n = n ≡ 0
IsNumberOf k n = ⊥

abbrev pub IsBasicOf : HeaderField → BasicVal → Type 0
IsBasicOf k (a_string text) = IsStringOf k text
IsBasicOf k (a_uint32 n) = IsNumberOf k n
IsBasicOf k (an_object_path text) = k ≡ field.Path
IsBasicOf k (a_signature types) = k ≡ field.Signature
IsBasicOf k v = ⊥

abbrev pub IsValueOf : HeaderField → Val → Type 0
IsValueOf k (a_basic v) = IsBasicOf k v
IsValueOf k v = ⊥

-- ---- which fields may stand in a header

-- No field has the code 0, and a known field has a value that it takes.
abbrev pub IsField : Field → Type 0
IsField f = (0 < f.code) × ((k : HeaderField) → f.code ≡ code_of k → IsValueOf k f.value)

-- the value of a known field, if it is there
abbrev pub value_of : HeaderField → List Field → Option Val
value_of k [] = None
value_of k (f ∷ fs) = if f.code == code_of k then Some f.value else value_of k fs

-- The field may follow those before it: a known one stands once.
abbrev pub MayFollow : List Field → Field → Type 0
MayFollow before f = IsField f × ((k : HeaderField) → f.code ≡ code_of k → value_of k before ≡ None)

-- Each of the fields may follow those before it.
abbrev pub AreFields : List Field → List Field → Type 0
AreFields before [] = Unit {0}
AreFields before (f ∷ fs) = MayFollow before f × AreFields (before ++ f ∷ []) fs

-- the first of the required fields that isn't there
abbrev pub missing : List HeaderField → List Field → Option HeaderField
missing [] fs = None
missing (k ∷ ks) fs = if is_some (value_of k fs) then missing ks fs else Some k

-- ---- their order

abbrev pub insert_field : Field → List Field → List Field
insert_field f [] = f ∷ []
insert_field f (g ∷ gs) = if nat_le f.code g.code then f ∷ g ∷ gs else g ∷ insert_field f gs

-- by rising code, equal codes in the order in which they came
abbrev pub by_code : List Field → List Field
by_code [] = []
by_code (f ∷ fs) = insert_field f (by_code fs)

-- ---- what known fields say

abbrev pub text_of : Option Val → Option Text
text_of (Some (a_basic (a_string text))) = Some text
text_of (Some (a_basic (an_object_path text))) = Some text
text_of value = None

abbrev pub text_field : HeaderField → List Field → Option Text
text_field k fs = text_of (value_of k fs)

abbrev pub number_of : Option Val → Option ℕ
number_of (Some (a_basic (a_uint32 n))) = Some n
number_of value = None

abbrev pub number_field : HeaderField → List Field → Option ℕ
number_field k fs = number_of (value_of k fs)

abbrev pub types_in : Option Val → Tys
types_in (Some (a_basic (a_signature types))) = types
types_in value = no_types

-- the types of the body: those of SIGNATURE, none without it
abbrev pub body_types : List Field → Tys
body_types fs = types_in (value_of field.Signature fs)
