-- Which message bytes are, as a function of them.
use Rattle.std.specs.Prelude.{ℕ, ◌+◌, List, [], ◌∷◌, ◌++◌, drop, slice_index, Result, Ok, Err, ◌==◌, if◌then◌else◌}
use Rattle.marshal_core.specs.declared.fault.MarshalFault.{MarshalFault}
use Rattle.marshal_core.specs.declared.order.Order.{Order}
use Rattle.marshal_core.specs.declared.order.Order.TheVariants as order
use Rattle.marshal_core.specs.Types.{Tys, array, one_type}
use Rattle.marshal_core.specs.Values.{Val, a_basic, a_byte, a_variant, an_array, a_struct, Vals, no_values, more_values}
use Rattle.marshal_core.specs.Reading.{decode_at}
use Rattle.message_core.specs.Announcements.{order_byte, kind_place, flags_place, serial_place, fields_place, fixed_length, number, padded}
use Rattle.message_core.specs.HeaderFields.{Field, field_type, by_code, body_types}
use Rattle.message_core.specs.Messages.{Message}

abbrev pub order_of : List ℕ → Order
order_of bytes = if slice_index bytes 0 == order_byte order.Big then order.Big else order.Little

abbrev pub field_in : Val → List Field
field_in (a_struct (more_values (a_basic (a_byte code)) (more_values (a_variant value) no_values))) = record { code = code; value = value } ∷ []
field_in value = []

abbrev pub fields_in : Vals → List Field
fields_in no_values = []
fields_in (more_values v vs) = field_in v ++ fields_in vs

abbrev pub fields_from : Result (Vals × ℕ) MarshalFault → List Field
fields_from (Ok (more_values (an_array t vs) no_values, used)) = fields_in vs
fields_from read = []

abbrev pub values_from : Result (Vals × ℕ) MarshalFault → Vals
values_from (Ok (vs, used)) = vs
values_from (Err fault) = no_values

-- the fields as they stand in the header
unfoldable pub sent_fields : List ℕ → List Field
sent_fields bytes = fields_from (decode_at (order_of bytes) (one_type (array field_type)) fields_place (drop fields_place bytes))

-- the bytes of the body
abbrev pub body_part : List ℕ → List ℕ
body_part bytes = drop (fixed_length + padded (number (order_of bytes) fields_place bytes)) bytes

unfoldable pub body_values : Tys → List ℕ → Vals
body_values types bytes = values_from (decode_at (order_of bytes) types 0 (body_part bytes))

-- the message that the bytes are, where they are one
abbrev pub said : List ℕ → Message
said bytes = record {
  order = order_of bytes;
  kind = slice_index bytes kind_place;
  flags = slice_index bytes flags_place;
  serial = number (order_of bytes) serial_place bytes;
  fields = by_code (sent_fields bytes);
  types = body_types (sent_fields bytes);
  body = body_values (body_types (sent_fields bytes)) bytes;
}
