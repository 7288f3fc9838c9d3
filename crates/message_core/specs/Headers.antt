-- The message of a header and a body.
use Rattle.std.specs.Prelude.{◌≡◌, ℕ, ◌+◌, ◌<◌, ◌≤◌, ◌^◌, List, [], ◌∷◌, ◌++◌, length, map, Option, Some, None}
use Rattle.std.specs.Int.{w32}
use Rattle.marshal_core.specs.declared.order.Order.{Order}
use Rattle.marshal_core.specs.Types.{Tys, no_types, more_types}
use Rattle.marshal_core.specs.Values.{BasicVal, a_string, an_object_path, a_uint32, a_signature, Val, a_basic, values, Vals}
use Rattle.marshal_core.specs.Spelling.{number_bytes, ended, pads, IsBasicValue, SpellElements}
use Rattle.match_rules.specs.Kinds.{kind_number}
use Rattle.message_core.specs.declared.header.Header.{Header}
use Rattle.message_core.specs.declared.header_field.HeaderField.{HeaderField}
use Rattle.message_core.specs.declared.header_field.HeaderField.TheVariants as field
use Rattle.message_core.specs.Kinds.{code_of}
use Rattle.message_core.specs.HeaderFields.{Field, field_type, field_value}
use Rattle.message_core.specs.Messages.{Message, IsWritten}
use Rattle.message_core.specs.Announcements.{fixed_length, max_message_length, order_byte, protocol_version}
use Rattle.message_core.specs.Places.{field_depth}

abbrev pub known_field : HeaderField → BasicVal → Field
known_field k v = record { code = code_of k; value = a_basic v }

-- the field, where the header has it
abbrev pub optional_field : {A : Type 0} → HeaderField → (A → BasicVal) → Option A → List Field
optional_field k make None = []
optional_field k make (Some x) = known_field k (make x) ∷ []

-- SIGNATURE stands where the body has values.
abbrev pub signature_field : Tys → List Field
signature_field no_types = []
signature_field (more_types t ts) = known_field field.Signature (a_signature (more_types t ts)) ∷ []

-- by rising code
abbrev pub fields_of : Header → Tys → List Field
fields_of header types =
    optional_field field.Path an_object_path header.path
    ++ optional_field field.Interface a_string header.interface
    ++ optional_field field.Member a_string header.member
    ++ optional_field field.ErrorName a_string header.error_name
    ++ optional_field field.ReplySerial a_uint32 header.reply_serial
    ++ optional_field field.Destination a_string header.destination
    ++ optional_field field.Sender a_string header.sender
    ++ signature_field types

abbrev pub message_of : Header → Tys → Vals → Message
message_of header types body = record {
  order = header.order;
  kind = kind_number header.kind;
  flags = header.flags;
  serial = header.serial;
  fields = fields_of header types;
  types = types;
  body = body;
}

-- no bytes are this message, within the longest length that there is
abbrev pub HasNoWriting : Message → Type 0
HasNoWriting m = (bytes : List ℕ) → length bytes ≤ max_message_length → IsWritten bytes m → ⊥

-- ---- putting fields one after the other

-- the value is one that its type has
abbrev pub IsKnownValue : Val → Type 0
IsKnownValue (a_basic v) = IsBasicValue v
IsKnownValue v = Unit {0}

-- each field has a value that its type has
abbrev pub AreKnownValues : List Field → Type 0
AreKnownValues [] = Unit {0}
AreKnownValues (f ∷ fs) = IsKnownValue f.value × AreKnownValues fs

-- the bytes of an array spell these fields
abbrev pub AreWritten : Order → List Field → List ℕ → Type 0
AreWritten order sent bytes = SpellElements (values (map field_value sent)) field_depth order fixed_length field_type bytes

-- a field of a text, at a multiple of eight
abbrev pub text_field_bytes : Order → HeaderField → (letter : ℕ) (text : List ℕ) → List ℕ
text_field_bytes order k letter text = (code_of k ∷ 1 ∷ letter ∷ 0 ∷ []) ++ (number_bytes order w32 (length text) ++ ended text)

-- ---- putting a message together

-- the fixed part, the elements of the field array, the padding to a multiple of eight, the body
abbrev pub whole_bytes : Order → (kind flags serial : ℕ) → (fields body : List ℕ) → List ℕ
whole_bytes order kind flags serial fields body =
    (order_byte order ∷ kind ∷ flags ∷ protocol_version ∷ [])
    ++ (number_bytes order w32 (length body) ++ (number_bytes order w32 serial
    ++ (number_bytes order w32 (length fields) ++ (fields ++ (pads 8 (fixed_length + length fields) ++ body)))))

abbrev pub laid_out : Message → (fields body : List ℕ) → List ℕ
laid_out m fields body = whole_bytes m.order m.kind m.flags m.serial fields body

-- The bytes are these parts of a message one after the other, and each number fits its four bytes.
pub record IsLaidOut (m : Message) (fields body bytes : List ℕ) : Type 0 where
  pub fields_fit : length fields < 2 ^ 32
  pub body_fits : length body < 2 ^ 32
  pub serial_fits : m.serial < 2 ^ 32
  pub whole : bytes ≡ laid_out m fields body
