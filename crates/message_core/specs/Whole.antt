-- Whole messages, checked.
use Rattle.std.specs.Prelude.{◌≡◌, ℕ, ◌+◌, ◌-◌, ◌≤◌, Bool, true, false, List, [], ◌∷◌, length, Option, Some, None, IsUtf8, ◌==◌, if◌then◌else◌}
use Rattle.std.specs.Borrow.{Bor}
use Rattle.names.specs.Texts.{Text}
use Rattle.marshal_core.specs.declared.order.Order.{Order}
use Rattle.marshal_core.specs.Types.{Tys}
use Rattle.marshal_core.specs.Values.{Vals}
use Rattle.marshal_core.specs.Spelling.{Spells}
use Rattle.message_core.specs.declared.field_place.FieldPlace.{FieldPlace}
use Rattle.message_core.specs.declared.header_field.HeaderField.{HeaderField}
use Rattle.message_core.specs.declared.header_field.HeaderField.TheVariants as field
use Rattle.message_core.specs.Kinds.{code_of}
use Rattle.message_core.specs.Announcements.{fixed_length, fields_place, number, padded}
use Rattle.message_core.specs.Messages.{IsMessage}
use Rattle.message_core.specs.Said.{order_of, said}
use Rattle.message_core.specs.Places.{part, ArePlaced, has_code}

-- a field that carries a text
abbrev pub is_text : HeaderField → Bool
is_text field.ReplySerial = false
is_text field.Signature = false
is_text field.UnixFds = false
is_text k = true

-- the place of the field of a code
abbrev pub place_of : ℕ → List FieldPlace → Option FieldPlace
place_of code [] = None
place_of code (p ∷ ps) = if p.code == code then Some p else place_of code ps

-- where the array of fields ends
abbrev pub fields_end : List ℕ → ℕ
fields_end bytes = fixed_length + number (order_of bytes) fields_place bytes

-- where the body begins
abbrev pub body_begin : List ℕ → ℕ
body_begin bytes = fixed_length + padded (number (order_of bytes) fields_place bytes)

-- what a signature is at a place that may be missing
abbrev pub signature_part : Option FieldPlace → List ℕ → List ℕ
signature_part None bytes = []
signature_part (Some p) bytes = part (p.from + 5) (p.to - 1) bytes

-- the place, if there is one, has room for so many bytes within the bytes
abbrev pub HasRoom : ℕ → List ℕ → Option FieldPlace → Type 0
HasRoom n bytes None = Unit {0}
HasRoom n bytes (Some p) = (p.from + n ≤ p.to) × (p.to ≤ length bytes)

-- the text that stands at a place that may be missing
abbrev pub text_part : Option FieldPlace → List ℕ → Option Text
text_part None bytes = None
text_part (Some p) bytes = Some (part (p.from + 8) (p.to - 1) bytes)

-- it is UTF-8
abbrev pub IsUtf8Part : Option FieldPlace → List ℕ → Type 0
IsUtf8Part None bytes = Unit {0}
IsUtf8Part (Some p) bytes = IsUtf8 (part (p.from + 8) (p.to - 1) bytes)

-- the number that stands at a place that may be missing
abbrev pub number_part : Order → Option FieldPlace → List ℕ → Option ℕ
number_part order None bytes = None
number_part order (Some p) bytes = Some (number order (p.from + 4) bytes)

-- the first required field without a place
abbrev pub unplaced : List HeaderField → List FieldPlace → Option HeaderField
unplaced [] ps = None
unplaced (k ∷ ks) ps = if has_code (code_of k) ps then unplaced ks ps else Some k

-- the body spells some values of these types, and nothing follows
pub record IsBody (order : Order) (types : Tys) (bytes : List ℕ) : Type 0 where
  pub values : Vals
  pub spelled : Spells order 0 types values bytes

-- the bytes are a message, and its fields stand at these places by rising code
pub record IsWhole (bytes : List ℕ) (places : List FieldPlace) : Type 0 where
  pub is_message : IsMessage bytes (said bytes)
  pub placed : ArePlaced (order_of bytes) bytes places (said bytes).fields
  pub begins : body_begin bytes ≤ length bytes

-- what is lent is this text
abbrev pub Lends : Option (Bor (List ℕ)) → Option Text → Type 0
Lends None text = text ≡ None
Lends (Some x) text = text ≡ Some x.now
