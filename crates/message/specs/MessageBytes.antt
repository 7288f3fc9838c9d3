-- The bytes of a message, as a function of it, after "Message Format" of the D-Bus Specification.
-- That they are the message is said by `IsWritten`; here they are whatever their length.
use Rattle.std.specs.Prelude.{ℕ, ◌+◌, Bool, ◌||◌, List, [], ◌∷◌, ◌++◌, length, map, nat_lt}
use Rattle.std.specs.Result.{result_unwrap_or}
use Rattle.marshal_core.specs.declared.order.Order.{Order}
use Rattle.marshal_core.specs.Spelling.{pad_len, pads}
use Rattle.marshal.specs.Writing.{value_written, encode_at}
use Rattle.message_core.specs.Announcements.{fixed_length, max_fields_length, max_message_length}
use Rattle.message_core.specs.HeaderFields.{Field, field_value}
use Rattle.message_core.specs.Headers.{laid_out}
use Rattle.message_core.specs.Messages.{Message}
use Rattle.message_core.specs.Places.{field_depth}

-- a field as it stands at a multiple of eight
unfoldable pub field_bytes : Order → Field → List ℕ
field_bytes order f = result_unwrap_or (value_written (field_value f) field_depth order 0 []) []

-- texts one after the other, from a place on, each at the next multiple of eight
abbrev pub lined_up : ℕ → List (List ℕ) → List ℕ
lined_up at [] = []
lined_up at (text ∷ texts) = pads 8 at ++ (text ++ lined_up (at + pad_len 8 at + length text) texts)

-- the elements of the field array
unfoldable pub fields_bytes : Message → List ℕ
fields_bytes m = lined_up fixed_length (map (field_bytes m.order) m.fields)

unfoldable pub body_bytes : Message → List ℕ
body_bytes m = result_unwrap_or (encode_at m.order 0 m.body) []

-- the whole, with the fields in their order
unfoldable pub message_bytes : Message → List ℕ
message_bytes m = laid_out m (fields_bytes m) (body_bytes m)

-- A message is too long where its field array or the whole would be longer than the standard allows.
unfoldable pub is_too_long : Message → Bool
is_too_long m = nat_lt max_fields_length (length (fields_bytes m)) || nat_lt max_message_length (length (message_bytes m))
