-- Why bytes are no message, where their first bytes announce as many as there are, after "Message Format" and "Header Fields" of
-- the D-Bus Specification. The fields are judged from the left, then the padding behind them, the required fields, and the body.
use Rattle.std.specs.Prelude.{◌≡◌, ◌⊎◌, ℕ, ◌<◌, List, length, slice_index, true, false, Option, Some, None, Ok, Err}
use Rattle.marshal_core.specs.declared.order.Order.{Order}
use Rattle.marshal_core.specs.Types.{Tys}
use Rattle.marshal_core.specs.Values.{Vals}
use Rattle.marshal_core.specs.Reading.{decode_at}
use Rattle.match_rules.specs.Kinds.{kind_of}
use Rattle.message_core.specs.declared.fault.FrameFault.{FrameFault}
use Rattle.message_core.specs.declared.fault.FrameFault.TheVariants as fault
use Rattle.message_core.specs.declared.header_field.HeaderField.{HeaderField}
use Rattle.message_core.specs.Announcements.{kind_place}
use Rattle.message_core.specs.Kinds.{code_of, required}
use Rattle.message_core.specs.HeaderFields.{Field, missing, body_types}
use Rattle.message_core.specs.Messages.{Message, IsMessage}
use Rattle.message_core.specs.Said.{order_of, body_part}
use Rattle.message_core.specs.Places.{part, all_zero, AreSpelled, FaultyFields}
use Rattle.message_core.specs.Whole.{fields_end, body_begin}

-- the bytes between the fields and the body
abbrev pub behind_fields : List ℕ → List ℕ
behind_fields bytes = part (fields_end bytes) (body_begin bytes) bytes

-- The fields are as they must be, but what follows them up to the body is not zero.
pub record HasLoosePadding (bytes : List ℕ) : Type 0 where
  pub sent : List Field
  pub spelled : AreSpelled (order_of bytes) bytes (fields_end bytes) sent
  pub loose : all_zero (behind_fields bytes) ≡ false

-- These fields stand in the header, and zero bytes follow them up to the body.
pub record HasFields (bytes : List ℕ) (sent : List Field) : Type 0 where
  pub spelled : AreSpelled (order_of bytes) bytes (fields_end bytes) sent
  pub padded : all_zero (behind_fields bytes) ≡ true

-- the first required field that isn't among these
abbrev pub missing_in : List ℕ → List Field → Option HeaderField
missing_in bytes sent = missing (required (kind_of (slice_index bytes kind_place))) sent

-- The first required field that is missing has this code.
pub record LacksField (bytes : List ℕ) (code : ℕ) : Type 0 where
  pub sent : List Field
  pub stand : HasFields bytes sent
  pub lacking : HeaderField
  pub first : missing_in bytes sent ≡ Some lacking
  pub told : code ≡ code_of lacking

-- The header is as it must be, and the body has these types.
pub record HasHeader (bytes : List ℕ) (types : Tys) : Type 0 where
  pub sent : List Field
  pub stand : HasFields bytes sent
  pub complete : missing_in bytes sent ≡ None
  pub signed : types ≡ body_types sent

-- The body's fault: it ends in one before it has the values of its types, or bytes follow them.
abbrev pub IsBodyFault : Order → Tys → List ℕ → FrameFault → Type 0
IsBodyFault order types body (fault.Body f) = decode_at order types 0 body ≡ Err f
IsBodyFault order types body fault.BodyLength = (values : Vals) × (used : ℕ) × (decode_at order types 0 body ≡ Ok (values, used)) × (used < length body)
IsBodyFault order types body f = ⊥

-- The header is as it must be, and the body is not.
pub record HasBodyFault (bytes : List ℕ) (f : FrameFault) : Type 0 where
  pub types : Tys
  pub header : HasHeader bytes types
  pub at_fault : IsBodyFault (order_of bytes) types (body_part bytes) f

-- The bytes are no message, for this first fault.
abbrev pub IsRefused : List ℕ → FrameFault → Type 0
IsRefused bytes (fault.Field code) = FaultyFields (order_of bytes) bytes (fields_end bytes) code ⊎ ((code ≡ 0) × HasLoosePadding bytes)
IsRefused bytes (fault.Missing code) = LacksField bytes code
IsRefused bytes f = HasBodyFault bytes f

-- the bytes are no message at all
abbrev pub IsNoMessage : List ℕ → Type 0
IsNoMessage bytes = (m : Message) → IsMessage bytes m → ⊥
