-- Why a header and a body make no message, after "Message Format" and "Header Fields" of the D-Bus Specification. The body is judged
-- first, then the type, the serial, the length, the fields by rising code, and the required ones.
use Rattle.std.specs.Prelude.{◌≡◌, ◌⊎◌, ℕ, ◌<◌, ◌≤◌, List, [], ◌∷◌, ◌++◌, length, Some, Result, Ok, Err}
use Rattle.marshal_core.specs.declared.fault.MarshalFault.{MarshalFault}
use Rattle.marshal_core.specs.Types.{Tys}
use Rattle.marshal_core.specs.Values.{Vals}
use Rattle.marshal_core.specs.Signatures.{signature_of}
use Rattle.marshal_core.specs.Spelling.{Spells}
use Rattle.marshal.specs.Writing.{encode_at, types_of_values}
use Rattle.match_rules.specs.Kinds.{kind_of}
use Rattle.message_core.specs.declared.fault.FrameFault.{FrameFault}
use Rattle.message_core.specs.declared.fault.FrameFault.TheVariants as fault
use Rattle.message_core.specs.declared.header.Header.{Header}
use Rattle.message_core.specs.declared.header_field.HeaderField.{HeaderField}
use Rattle.message_core.specs.declared.header_field.HeaderField.TheVariants as field
use Rattle.message_core.specs.Announcements.{max_fields_length, max_message_length}
use Rattle.message_core.specs.Kinds.{code_of, required}
use Rattle.message_core.specs.HeaderFields.{Field, MayFollow, AreFields, missing}
use Rattle.message_core.specs.Headers.{AreWritten, laid_out, message_of}
use Rattle.message_core.specs.Messages.{Message}
use Rattle.message_core.specs.Refusals.{IsBodyFault}

-- The fields and the body have bytes, and neither the array of fields nor the whole is longer than the standard allows.
pub record IsShort (m : Message) : Type 0 where
  pub fields : List ℕ
  pub body : List ℕ
  pub written : AreWritten m.order m.fields fields
  pub spelled : Spells m.order 0 m.types m.body body
  pub fields_fit : length fields ≤ max_fields_length
  pub whole_fits : length (laid_out m fields body) ≤ max_message_length

-- The first of the fields that has a value which it does not take, or stands twice, has this code.
pub record HasWrongField (fields : List Field) (code : ℕ) : Type 0 where
  pub before : List Field
  pub wrong : Field
  pub after : List Field
  pub split : fields ≡ before ++ wrong ∷ after
  pub permitted : AreFields [] before
  pub not_permitted : MayFollow before wrong → ⊥
  pub told : code ≡ wrong.code

-- The first required field that is missing has this code.
pub record LacksRequired (m : Message) (code : ℕ) : Type 0 where
  pub permitted : AreFields [] m.fields
  pub lacking : HeaderField
  pub first : missing (required (kind_of m.kind)) m.fields ≡ Some lacking
  pub told : code ≡ code_of lacking

-- there are a type and a serial
abbrev pub HasStart : Message → Type 0
HasStart m = (0 < m.kind) × (0 < m.serial)

-- The first fault of a message whose body has bytes.
abbrev pub IsOwnFault : Message → FrameFault → Type 0
IsOwnFault m fault.Kind = m.kind ≡ 0
IsOwnFault m fault.Serial = (0 < m.kind) × (m.serial ≡ 0)
IsOwnFault m fault.TooLong = HasStart m × (IsShort m → ⊥)
IsOwnFault m (fault.Field code) = HasStart m × IsShort m × HasWrongField m.fields code
IsOwnFault m (fault.Missing code) = HasStart m × IsShort m × LacksRequired m code
IsOwnFault m f = ⊥

abbrev pub IsFaultOfEncoded : Header → Vals → Result (List ℕ) MarshalFault → FrameFault → Type 0
IsFaultOfEncoded header vs (Err e) f = f ≡ fault.Body e
IsFaultOfEncoded header vs (Ok bytes) f = IsOwnFault (message_of header (types_of_values vs) vs) f

-- The first fault of a header with values: that of the values, or that of the message.
abbrev pub IsFaultOfValues : Header → Vals → FrameFault → Type 0
IsFaultOfValues header vs f = IsFaultOfEncoded header vs (encode_at header.order 0 vs) f

-- the bytes are values of these types, and the message has the fault
pub record IsFaultAround (header : Header) (types : Tys) (body : List ℕ) (f : FrameFault) : Type 0 where
  pub values : Vals
  pub spelled : Spells header.order 0 types values body
  pub at_fault : IsOwnFault (message_of header types values) f

abbrev pub IsFaultOfSigned : Header → Result Tys MarshalFault → List ℕ → FrameFault → Type 0
IsFaultOfSigned header (Err e) body f = f ≡ fault.Field (code_of field.Signature)
IsFaultOfSigned header (Ok types) body f = IsBodyFault header.order types body f ⊎ IsFaultAround header types body f

-- The first fault of a header with the text of a signature and the bytes of a body: the text is no signature, the bytes are not what it
-- says, or it is that of the message.
abbrev pub IsFaultOfBytes : Header → List ℕ → List ℕ → FrameFault → Type 0
IsFaultOfBytes header signature body f = IsFaultOfSigned header (signature_of signature) body f
