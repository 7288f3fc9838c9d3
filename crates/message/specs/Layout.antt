-- Where the parts of a message stand when it is written again, by the places of its fields.
use Rattle.std.specs.Prelude.{ℕ, suc, ◌+◌, ◌-◌, ◌≤◌, List, [], ◌∷◌, ◌++◌, length, map, take, drop, nat_le, if◌then◌else◌}
use Rattle.std.specs.Int.{w32}
use Rattle.names.specs.Texts.{Text}
use Rattle.marshal_core.specs.declared.order.Order.{Order}
use Rattle.marshal_core.specs.Spelling.{pad_len, number_bytes, ended}
use Rattle.message_core.specs.declared.field_place.FieldPlace.{FieldPlace}
use Rattle.message_core.specs.Announcements.{fixed_length, max_fields_length}
use Rattle.message_core.specs.Places.{part}
use Rattle.message.specs.MessageBytes.{lined_up}
use Rattle.message.specs.Senders.{first_unknown}

-- each of the places begins before it ends, within so many bytes
abbrev pub AreWithin : ℕ → List FieldPlace → Type 0
AreWithin n [] = Unit {0}
AreWithin n (p ∷ ps) = (p.from ≤ p.to) × (p.to ≤ n) × AreWithin n ps

-- how many of the places come before the first of a code that is not below this one
abbrev pub count_below : ℕ → List FieldPlace → ℕ
count_below code [] = 0
count_below code (p ∷ ps) = if nat_le code p.code then 0 else suc (count_below code ps)

-- the place behind a text of so many bytes that is put at the next multiple of eight
abbrev pub behind : ℕ → ℕ → ℕ
behind at n = at + pad_len 8 at + n

-- the place behind the fields of these places that are put one after the other from a place on
abbrev pub fields_end : ℕ → List FieldPlace → ℕ
fields_end at [] = at
fields_end at (p ∷ ps) = fields_end (behind at (p.to - p.from)) ps

-- the bytes at a place
abbrev pub text_at : List ℕ → FieldPlace → List ℕ
text_at bytes p = part p.from p.to bytes

-- the fields of these places, from a place on
abbrev pub copied : List ℕ → ℕ → List FieldPlace → List ℕ
copied bytes at ps = lined_up at (map (text_at bytes) ps)

-- SENDER of this name, at a multiple of eight
abbrev pub sender_bytes : Order → Text → List ℕ
sender_bytes order name = (7 ∷ 1 ∷ 115 ∷ 0 ∷ []) ++ (number_bytes order w32 (length name) ++ ended name)

-- the last place where the array of fields may end
abbrev pub last_end : ℕ
last_end = fixed_length + max_fields_length

-- how many bytes SENDER of this name takes at a multiple of eight
abbrev pub sender_length : Text → ℕ
sender_length name = 9 + length name

-- the fields of known codes, where they stand by rising code
abbrev pub known_places : List FieldPlace → List FieldPlace
known_places ps = take (count_below first_unknown ps) ps

-- the fields of codes below SENDER's, and those above
abbrev pub before_sender : List FieldPlace → List FieldPlace
before_sender ps = take (count_below 7 ps) ps

abbrev pub after_sender : List FieldPlace → List FieldPlace
after_sender ps = drop (count_below 8 ps) ps

-- the places behind the fields before SENDER, behind SENDER, and behind all fields
abbrev pub before_end : List FieldPlace → ℕ
before_end ps = fields_end fixed_length (before_sender ps)

abbrev pub sender_end : Text → List FieldPlace → ℕ
sender_end name ps = behind (before_end ps) (sender_length name)

abbrev pub sent_end : Text → List FieldPlace → ℕ
sent_end name ps = fields_end (sender_end name ps) (after_sender ps)
