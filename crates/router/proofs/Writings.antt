-- A message is written in one way.
use Rattle.std.proofs.Common.{◌≡◌, ℕ, ◌+◌, ◌%◌, List, [], ◌∷◌, ◌++◌, length, map, sym, ap, subst, ◌∙◌, append_assoc, arith}
use Rattle.std.specs.Prelude.{replicate}
use Rattle.std.specs.Int.{w32}
use Rattle.std.proofs.lemmas.List.{length-append}
use Rattle.marshal_core.specs.declared.order.Order.{Order}
use Rattle.marshal_core.specs.Spelling.{number_bytes, pad_len, pads, SpellElements, SpellFields}
use Rattle.marshal_core.specs.Values.{values}
use Rattle.marshal.proofs.Moves.{value_moves}
use Rattle.message_core.specs.Announcements.{order_byte, protocol_version, fields_place, fixed_length}
use Rattle.message_core.specs.HeaderFields.{Field, field_type, field_value}
use Rattle.message_core.specs.Headers.{laid_out}
use Rattle.message_core.specs.Messages.{Message, IsWritten}
use Rattle.message_core.specs.Places.{SpellField, field_depth}
use Rattle.message_core.proofs.Strings.{length-number}
use Rattle.message_core.proofs.Shape.{field_parts, field_part_types}
use Rattle.message.specs.MessageBytes.{field_bytes, fields_bytes, lined_up, message_bytes}
use Rattle.message.proofs.Lines.{length-pads}
use Rattle.message.proofs.Ready.{body_is}
use Rattle.message.proofs.Spelled.{bytes_of}

-- a field stands behind its padding
field_is : (order : Order) (at : ℕ) (f : Field) (bytes : List ℕ) → SpellField order at f bytes → bytes ≡ pads 8 at ++ field_bytes order f
field_is order at f bytes h =
    let p : ℕ = at + pad_len 8 at in
    let inside = h.2 in
    let aligned : p % 8 ≡ 0 = omega arith in
    let at_zero : p % 8 ≡ 0 % 8 = omega arith in
    let same : p + pad_len 8 p ≡ p = omega (arith, aligned) in
    let filled : pad_len 8 p ≡ 0 = omega (arith, same) in
    let none : pads 8 p ≡ [] = ap (λ (n : ℕ). replicate n 0) filled in
    let there : SpellField order p f inside = (h.0, h.1, inside, subst (λ (n : ℕ). SpellFields (field_parts f) 62 order n field_part_types inside) (sym same) h.3, sym (ap (λ (x : List ℕ). x ++ inside) none)) in
    h.4 ∙ ap (λ (x : List ℕ). pads 8 at ++ x) (sym (bytes_of order f inside (value_moves (field_value f) field_depth order p 0 field_type inside at_zero there)))

-- so do fields one after the other
fields_are : (order : Order) (at : ℕ) (fs : List Field) (bytes : List ℕ) → SpellElements (values (map field_value fs)) field_depth order at field_type bytes → bytes ≡ lined_up at (map (field_bytes order) fs)
fields_are order at [] bytes h = h
fields_are order at (f ∷ fs) bytes h =
    let text : List ℕ = field_bytes order f in
    let first = field_is order at f h.0 h.2 in
    let place : at + length h.0 ≡ at + pad_len 8 at + length text = omega (arith, ap (λ (x : List ℕ). length x) first, length-append (pads 8 at) text, length-pads at) in
    let rest = fields_are order (at + pad_len 8 at + length text) fs h.1 (subst (λ (n : ℕ). SpellElements (values (map field_value fs)) field_depth order n field_type h.1) place h.3) in
    h.4 ∙ ap (λ (x : List ℕ). x ++ h.1) first ∙ append_assoc (pads 8 at) text h.1 ∙ ap (λ (x : List ℕ). pads 8 at ++ (text ++ x)) rest

-- the parts one after the other
parts : (m : Message) (inside body array bytes : List ℕ) → array ≡ number_bytes m.order w32 (length inside) ++ inside →
    bytes ≡ (order_byte m.order ∷ m.kind ∷ m.flags ∷ protocol_version ∷ []) ++ (number_bytes m.order w32 (length body) ++ (number_bytes m.order w32 m.serial ++ (array ++ (pads 8 (fields_place + length array) ++ body)))) →
    bytes ≡ laid_out m inside body
parts m inside body array bytes is whole =
    let word : List ℕ = number_bytes m.order w32 (length inside) in
    let place : fields_place + length array ≡ fixed_length + length inside = omega (arith, ap (λ (x : List ℕ). length x) is, length-append word inside, length-number m.order (length inside)) in
    let tail : array ++ (pads 8 (fields_place + length array) ++ body) ≡ word ++ (inside ++ (pads 8 (fixed_length + length inside) ++ body)) =
    ap (λ (n : ℕ). array ++ (pads 8 n ++ body)) place ∙ ap (λ (x : List ℕ). x ++ (pads 8 (fixed_length + length inside) ++ body)) is ∙ append_assoc word inside (pads 8 (fixed_length + length inside) ++ body) in
    whole ∙ ap (λ (x : List ℕ). (order_byte m.order ∷ m.kind ∷ m.flags ∷ protocol_version ∷ []) ++ (number_bytes m.order w32 (length body) ++ (number_bytes m.order w32 m.serial ++ x))) tail

-- What is written as a message is its bytes.
pub written_once : (bytes : List ℕ) (m : Message) → IsWritten bytes m → bytes ≡ message_bytes m
unfolding message_bytes fields_bytes
written_once bytes m h =
    let s = h.is_sent in
    let array = s.array_spelled in
    let inside : List ℕ = array.2 in
    let fields = fields_are m.order fixed_length m.fields inside array.4 in
    parts m inside s.body_bytes s.array_bytes bytes array.5 s.whole
    ∙ ap (λ (x : List ℕ). laid_out m x s.body_bytes) fields
    ∙ ap (λ (x : List ℕ). laid_out m (lined_up fixed_length (map (field_bytes m.order) m.fields)) x) (sym (body_is m s.body_bytes s.body_spelled))
