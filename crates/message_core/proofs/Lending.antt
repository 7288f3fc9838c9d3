-- What a checked message lends.
use Rattle.std.proofs.Common.{◌≡◌, ℕ, ◌+◌, true, List, drop, Option, Some, None, refl, sym, ap, subst, ◌∙◌}
use Rattle.marshal_core.specs.Values.{Val}
use Rattle.marshal_core.specs.Signatures.{codes}
use Rattle.marshal_core.specs.Spelling.{Spells}
use Rattle.message_core.specs.declared.field_place.FieldPlace.{FieldPlace}
use Rattle.message_core.specs.declared.header_field.HeaderField.{HeaderField}
use Rattle.message_core.specs.declared.header_field.HeaderField.TheVariants as field
use Rattle.message_core.specs.Kinds.{code_of}
use Rattle.message_core.specs.HeaderFields.{Field, value_of, text_of, text_field, number_of, number_field, types_in}
use Rattle.message_core.specs.Messages.{IsMessage}
use Rattle.message_core.specs.Said.{order_of, said}
use Rattle.message_core.specs.Announcements.{padded}
use Rattle.message_core.specs.Whole.{is_text, place_of, signature_part, text_part, number_part, HasRoom, IsUtf8Part, IsWhole, body_begin}
use Rattle.message_core.proofs.Sorting.{value_by_code}
use Rattle.message_core.proofs.Contents.{found, not_found, text_stands, signature_stands, serial_stands}
use Rattle.message_core.proofs.Said.{parts}

abbrev some : {A : Type 0} → A → Option A
some x = Some x

pub text_room : (bytes : List ℕ) (ps : List FieldPlace) (k : HeaderField) → IsWhole bytes ps → is_text k ≡ true → HasRoom 9 bytes (place_of (code_of k) ps)
text_room bytes ps k h t = at (place_of (code_of k) ps) refl where
  at : (o : Option FieldPlace) → place_of (code_of k) ps ≡ o → HasRoom 9 bytes o
  at None e = tt
  at (Some p) e =
      let f = found (order_of bytes) bytes k ps (said bytes).fields p h.placed e in
      let s = text_stands (order_of bytes) bytes k p f.field f.placed f.coded t in
      (s.room, s.ends)

pub text_utf8 : (bytes : List ℕ) (ps : List FieldPlace) (k : HeaderField) → IsWhole bytes ps → is_text k ≡ true → IsUtf8Part (place_of (code_of k) ps) bytes
text_utf8 bytes ps k h t = at (place_of (code_of k) ps) refl where
  at : (o : Option FieldPlace) → place_of (code_of k) ps ≡ o → IsUtf8Part o bytes
  at None e = tt
  at (Some p) e =
      let f = found (order_of bytes) bytes k ps (said bytes).fields p h.placed e in
      let s = text_stands (order_of bytes) bytes k p f.field f.placed f.coded t in
      rw s.stands s.utf8

pub text_told : (bytes : List ℕ) (ps : List FieldPlace) (k : HeaderField) → IsWhole bytes ps → is_text k ≡ true → text_part (place_of (code_of k) ps) bytes ≡ text_field k (said bytes).fields
text_told bytes ps k h t = at (place_of (code_of k) ps) refl where
  at : (o : Option FieldPlace) → place_of (code_of k) ps ≡ o → text_part o bytes ≡ text_field k (said bytes).fields
  at None e = ap text_of (sym (not_found (order_of bytes) bytes k ps (said bytes).fields h.placed e))
  at (Some p) e =
      let f = found (order_of bytes) bytes k ps (said bytes).fields p h.placed e in
      let s = text_stands (order_of bytes) bytes k p f.field f.placed f.coded t in
      ap (λ (x : List ℕ). some x) s.stands ∙ sym s.is ∙ ap text_of (sym f.value)

pub serial_room : (bytes : List ℕ) (ps : List FieldPlace) → IsWhole bytes ps → HasRoom 8 bytes (place_of (code_of field.ReplySerial) ps)
serial_room bytes ps h = at (place_of (code_of field.ReplySerial) ps) refl where
  at : (o : Option FieldPlace) → place_of (code_of field.ReplySerial) ps ≡ o → HasRoom 8 bytes o
  at None e = tt
  at (Some p) e =
      let f = found (order_of bytes) bytes field.ReplySerial ps (said bytes).fields p h.placed e in
      let s = serial_stands (order_of bytes) bytes p f.field f.placed f.coded in
      (s.room, s.ends)

pub serial_told : (bytes : List ℕ) (ps : List FieldPlace) → IsWhole bytes ps → number_part (order_of bytes) (place_of (code_of field.ReplySerial) ps) bytes ≡ number_field field.ReplySerial (said bytes).fields
serial_told bytes ps h = at (place_of (code_of field.ReplySerial) ps) refl where
  at : (o : Option FieldPlace) → place_of (code_of field.ReplySerial) ps ≡ o → number_part (order_of bytes) o bytes ≡ number_field field.ReplySerial (said bytes).fields
  at None e = ap number_of (sym (not_found (order_of bytes) bytes field.ReplySerial ps (said bytes).fields h.placed e))
  at (Some p) e =
      let f = found (order_of bytes) bytes field.ReplySerial ps (said bytes).fields p h.placed e in
      let s = serial_stands (order_of bytes) bytes p f.field f.placed f.coded in
      ap (λ (x : ℕ). some x) s.stands ∙ sym s.is ∙ ap number_of (sym f.value)

types_told : (bytes : List ℕ) → IsMessage bytes (said bytes) → (said bytes).types ≡ types_in (value_of field.Signature (said bytes).fields)
types_told bytes h =
    h.is_sent.signed ∙ ap types_in (sym (value_by_code field.Signature h.sent)) ∙ ap (λ (x : List Field). types_in (value_of field.Signature x)) (sym h.sorted)

pub signature_stands_told : (bytes : List ℕ) (ps : List FieldPlace) → IsWhole bytes ps → signature_part (place_of (code_of field.Signature) ps) bytes ≡ codes (said bytes).types
signature_stands_told bytes ps h = at (place_of (code_of field.Signature) ps) refl where
  at : (o : Option FieldPlace) → place_of (code_of field.Signature) ps ≡ o → signature_part o bytes ≡ codes (said bytes).types
  at None e = ap (λ (v : Option Val). codes (types_in v)) (sym (not_found (order_of bytes) bytes field.Signature ps (said bytes).fields h.placed e)) ∙ ap codes (sym (types_told bytes h.is_message))
  at (Some p) e =
      let f = found (order_of bytes) bytes field.Signature ps (said bytes).fields p h.placed e in
      let s = signature_stands (order_of bytes) bytes p f.field f.placed f.coded in
      s.stands ∙ ap codes (sym s.is) ∙ ap (λ (v : Option Val). codes (types_in v)) (sym f.value) ∙ ap codes (sym (types_told bytes h.is_message))

pub body_told : (bytes : List ℕ) → IsMessage bytes (said bytes) → Spells (said bytes).order 0 (said bytes).types (said bytes).body (drop (body_begin bytes) bytes)
body_told bytes h =
    let s = h.is_sent in
    let p = parts h.sent bytes (said bytes) s in
    let place : drop (body_begin bytes) bytes ≡ s.body_bytes = ap (λ (n : ℕ). drop (16 + padded n) bytes) p.fields ∙ p.from_body in
    subst (Spells (said bytes).order 0 (said bytes).types (said bytes).body) (sym place) s.body_spelled
