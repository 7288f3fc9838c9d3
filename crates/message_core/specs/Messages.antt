-- Which bytes are which message, after "Message Format" of the D-Bus Specification.
use Rattle.std.specs.Prelude.{◌≡◌, ℕ, ◌+◌, ◌<◌, ◌^◌, List, [], ◌∷◌, ◌++◌, length, map, None}
use Rattle.std.specs.Int.{w32}
use Rattle.marshal_core.specs.declared.order.Order.{Order}
use Rattle.marshal_core.specs.Types.{array, Tys}
use Rattle.marshal_core.specs.Values.{Val, an_array, values, Vals}
use Rattle.marshal_core.specs.Spelling.{number_bytes, pads, max_container_depth, SpellValue, Spells}
use Rattle.match_rules.specs.Kinds.{kind_of}
use Rattle.message_core.specs.Kinds.{required}
use Rattle.message_core.specs.HeaderFields.{Field, field_type, field_value, AreFields, missing, by_code, body_types}
use Rattle.message_core.specs.Announcements.{order_byte, protocol_version, fields_place}

-- a message: its fields by rising code, the types and the values of its body
pub record Message : Type 0 where
  pub order : Order
  pub kind : ℕ
  pub flags : ℕ
  pub serial : ℕ
  pub fields : List Field
  pub types : Tys
  pub body : Vals

-- the array of header fields
abbrev pub field_array : List Field → Val
field_array sent = an_array field_type (values (map field_value sent))

-- The bytes are the message, and its fields stand in this order.
pub record IsSent (sent : List Field) (bytes : List ℕ) (m : Message) : Type 0 where
  pub array_bytes : List ℕ
  pub body_bytes : List ℕ
  pub array_spelled : SpellValue (field_array sent) max_container_depth m.order fields_place (array field_type) array_bytes
  pub body_spelled : Spells m.order 0 m.types m.body body_bytes
  pub permitted : AreFields [] sent
  pub complete : missing (required (kind_of m.kind)) sent ≡ None
  pub signed : m.types ≡ body_types sent
  pub kind : (0 < m.kind) × (m.kind < 2 ^ 8)
  pub flags : m.flags < 2 ^ 8
  pub serial : (0 < m.serial) × (m.serial < 2 ^ 32)
  pub fits : length body_bytes < 2 ^ 32
  pub whole : bytes ≡ (order_byte m.order ∷ m.kind ∷ m.flags ∷ protocol_version ∷ [])
      ++ (number_bytes m.order w32 (length body_bytes) ++ (number_bytes m.order w32 m.serial
      ++ (array_bytes ++ (pads 8 (fields_place + length array_bytes) ++ body_bytes))))

-- The bytes are the message.
pub record IsMessage (bytes : List ℕ) (m : Message) : Type 0 where
  pub sent : List Field
  pub is_sent : IsSent sent bytes m
  pub sorted : m.fields ≡ by_code sent

-- The bytes are the message, and its fields stand by rising code.
pub record IsWritten (bytes : List ℕ) (m : Message) : Type 0 where
  pub is_sent : IsSent m.fields bytes m
  pub sorted : m.fields ≡ by_code m.fields
