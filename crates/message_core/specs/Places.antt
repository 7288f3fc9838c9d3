-- Where the fields of a header stand in a message's bytes.
use Rattle.std.specs.Prelude.{◌≡◌, ℕ, ◌-◌, ◌%◌, ◌<◌, ◌≤◌, List, [], ◌∷◌, ◌++◌, length, map, take, drop, slice_index, Bool, true, false, ◌&&◌, ◌||◌, nat_lt, zero, suc, ◌==◌, if◌then◌else◌}
use Rattle.marshal_core.specs.declared.order.Order.{Order}
use Rattle.marshal_core.specs.Values.{Val, values}
use Rattle.marshal_core.specs.Spelling.{pad_len, max_container_depth, SpellValue, SpellElements}
use Rattle.message_core.specs.declared.fault.FrameFault.{FrameFault}
use Rattle.message_core.specs.declared.fault.FrameFault.TheVariants as fault
use Rattle.message_core.specs.declared.field_place.FieldPlace.{FieldPlace}
use Rattle.message_core.specs.declared.header_field.HeaderField.{HeaderField}
use Rattle.message_core.specs.Kinds.{code_of}
use Rattle.message_core.specs.HeaderFields.{Field, field_type, field_value, IsField, MayFollow, AreFields, by_code}
use Rattle.message_core.specs.Announcements.{fixed_length}

-- the containers that may stand in one another within the array of fields
abbrev pub field_depth : ℕ
field_depth = max_container_depth - 1

-- the bytes from one place to another
abbrev pub part : ℕ → ℕ → List ℕ → List ℕ
part from to bytes = take (to - from) (drop from bytes)

-- the bytes spell the field, where it begins at a place
abbrev pub SpellField : Order → ℕ → Field → List ℕ → Type 0
SpellField order at f bytes = SpellValue (field_value f) field_depth order at field_type bytes

-- The field stands here in the bytes, without its padding.
pub record IsPlaced (order : Order) (bytes : List ℕ) (place : FieldPlace) (f : Field) : Type 0 where
  pub code : place.code ≡ f.code
  pub aligned : place.from % 8 ≡ 0
  pub begins : place.from ≤ place.to
  pub ends : place.to ≤ length bytes
  pub spelled : SpellField order place.from f (part place.from place.to bytes)
  pub is_field : IsField f

-- each of the fields stands at its place
abbrev pub ArePlaced : Order → List ℕ → List FieldPlace → List Field → Type 0
ArePlaced order bytes [] [] = Unit {0}
ArePlaced order bytes (p ∷ ps) (f ∷ fs) = IsPlaced order bytes p f × ArePlaced order bytes ps fs
ArePlaced order bytes ps fs = ⊥

-- The bytes from the first field to a place spell these fields.
pub record AreSpelled (order : Order) (bytes : List ℕ) (to : ℕ) (sent : List Field) : Type 0 where
  pub spelled : SpellElements (values (map field_value sent)) field_depth order fixed_length field_type (part fixed_length to bytes)
  pub permitted : AreFields [] sent

-- zero bytes alone
abbrev pub all_zero : List ℕ → Bool
all_zero [] = true
all_zero (b ∷ bs) = (b == 0) && all_zero bs

-- the code of the field that begins here, behind its padding; 0 where there is none
abbrev pub code_at : ℕ → List ℕ → ℕ
code_at at rest = if all_zero (take (pad_len 8 at) rest) then slice_index rest (pad_len 8 at) else 0

-- no field begins the bytes
abbrev pub BeginsNoField : Order → ℕ → List ℕ → Type 0
BeginsNoField order at rest = (f : Field) (front more : List ℕ) → rest ≡ front ++ more → SpellField order at f front → IsField f → ⊥

-- no field that may follow these begins the bytes
abbrev pub BeginsNoFollower : Order → List Field → ℕ → List ℕ → Type 0
BeginsNoFollower order sent at rest = (f : Field) (front more : List ℕ) → rest ≡ front ++ more → SpellField order at f front → MayFollow sent f → ⊥

-- The fields end in a fault: behind some of them there are bytes that no field begins which may follow; with the code that is told.
pub record FaultyFields (order : Order) (bytes : List ℕ) (end code : ℕ) : Type 0 where
  pub at : ℕ
  pub sent : List Field
  pub within : (fixed_length ≤ at) × (at < end)
  pub before : AreSpelled order bytes at sent
  pub none : BeginsNoFollower order sent at (part at end bytes)
  pub told : code ≡ code_at at (part at end bytes)

-- the fault is that of the field array
abbrev pub IsFieldFault : Order → List ℕ → ℕ → FrameFault → Type 0
IsFieldFault order bytes end (fault.Field code) = FaultyFields order bytes end code
IsFieldFault order bytes end f = ⊥

-- no field begins from a place on to the end, and the fault tells the code that stands there
abbrev pub IsUnread : Order → List ℕ → ℕ → ℕ → FrameFault → Type 0
IsUnread order bytes at end (fault.Field code) = (code ≡ code_at at (part at end bytes)) × BeginsNoField order at (part at end bytes)
IsUnread order bytes at end f = ⊥

-- The bytes begin with a field, which takes so many of them.
pub record BeginsField (order : Order) (at code : ℕ) (bytes : List ℕ) (n : ℕ) : Type 0 where
  pub value : Val
  pub within : n ≤ length bytes
  pub spelled : SpellField order at (record { code = code; value = value }) (take n bytes)
  pub is_field : IsField (record { code = code; value = value })

-- A field was read from a place on, and stands where it is told.
pub record IsRead (order : Order) (bytes : List ℕ) (at end : ℕ) (place : FieldPlace) : Type 0 where
  pub field : Field
  pub spelled : SpellField order at field (part at place.to bytes)
  pub placed : IsPlaced order bytes place field
  pub after : at < place.to
  pub within : place.to ≤ end

-- how many of the places come before a field of a code that comes last: those up to the first of a higher code
abbrev pub rank : ℕ → List FieldPlace → ℕ
rank code [] = 0
rank code (p ∷ ps) = if nat_lt code p.code then 0 else suc (rank code ps)

abbrev pub has_code : ℕ → List FieldPlace → Bool
has_code code [] = false
has_code code (p ∷ ps) = (p.code == code) || has_code code ps

-- the fault is that a known field of this code has a place already
abbrev pub IsTwice : List FieldPlace → ℕ → FrameFault → Type 0
IsTwice places code (fault.Field told) = (told ≡ code) × (k : HeaderField) × (code ≡ code_of k) × (has_code code places ≡ true)
IsTwice places code f = ⊥

-- The bytes from the first field to a place spell fields, which stand at these places by rising code.
pub record HaveFields (order : Order) (bytes : List ℕ) (to : ℕ) (places : List FieldPlace) : Type 0 where
  pub sent : List Field
  pub spelled : AreSpelled order bytes to sent
  pub placed : ArePlaced order bytes places (by_code sent)

-- each of the places is that of a code below this one
abbrev pub AreBelow : ℕ → List FieldPlace → Type 0
AreBelow code [] = Unit {0}
AreBelow code (p ∷ ps) = (p.code < code) × AreBelow code ps

-- The bytes from the first field to a place spell fields, which stand at these places in their order.
pub record HaveInOrder (order : Order) (bytes : List ℕ) (to : ℕ) (places : List FieldPlace) : Type 0 where
  pub sent : List Field
  pub spelled : AreSpelled order bytes to sent
  pub placed : ArePlaced order bytes places sent
  pub coded : AreBelow 256 places

-- the places of a code
abbrev pub of_code : ℕ → List FieldPlace → List FieldPlace
of_code code [] = []
of_code code (p ∷ ps) = if p.code == code then p ∷ of_code code ps else of_code code ps

-- the places of so many codes from one on, by rising code, equal codes in their order
abbrev pub of_codes : ℕ → ℕ → List FieldPlace → List FieldPlace
of_codes zero code ps = []
of_codes (suc n) code ps = of_code code ps ++ of_codes n (suc code) ps

-- A place is added: the field may follow the others, and stands among them by its code.
abbrev pub IsAdded : Order → List ℕ → List Field → Field → List FieldPlace → Type 0
IsAdded order bytes sent f places = MayFollow sent f × ArePlaced order bytes places (by_code (sent ++ f ∷ []))
