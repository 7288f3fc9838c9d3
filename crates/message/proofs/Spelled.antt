-- Fields as they are spelled wherever they stand.
use Rattle.std.proofs.Common.{◌≡◌, ℕ, ◌+◌, ◌%◌, List, [], ◌∷◌, ◌++◌, length, map, Result, refl, sym, ap, subst, ◌∙◌, append_assoc, arith, lit<}
use Rattle.std.specs.Result.{result_unwrap_or}
use Rattle.std.proofs.lemmas.List.{append-nil, length-append}
use Rattle.marshal_core.specs.declared.fault.MarshalFault.{MarshalFault}
use Rattle.marshal_core.specs.declared.order.Order.{Order}
use Rattle.marshal_core.specs.Types.{Tys, struct, one_type}
use Rattle.marshal_core.specs.Values.{a_struct, Vals, values, no_values, more_values}
use Rattle.marshal_core.specs.Signatures.{codes, signature_of}
use Rattle.marshal_core.specs.Spelling.{pad_len, pads, SpellElements, SpellFields, Spells}
use Rattle.marshal_core.proofs.Results.{bind_ok, ok_is}
use Rattle.marshal.specs.Writing.{types_of_values, value_written, fields_written}
use Rattle.marshal.proofs.Moves.{value_moves}
use Rattle.marshal.proofs.WrittenAgain.{is_written}
use Rattle.message_core.specs.declared.field_place.FieldPlace.{FieldPlace}
use Rattle.message_core.specs.HeaderFields.{Field, field_type, field_value}
use Rattle.message_core.specs.Places.{SpellField, field_depth, IsPlaced, ArePlaced}
use Rattle.message_core.proofs.Shape.{padded_spelled}
use Rattle.message.specs.MessageBytes.{field_bytes, lined_up}
use Rattle.message.specs.Layout.{AreWithin, text_at}
use Rattle.message.proofs.Lines.{length-pads}

-- what spells a field at a multiple of eight is what is written of it
pub bytes_of : (order : Order) (f : Field) (bytes : List ℕ) → SpellField order 0 f bytes → field_bytes order f ≡ bytes
unfolding field_bytes
bytes_of order f bytes h =
    let inner : Vals = more_values (field_value f) no_values in
    let outer : Vals = more_values (a_struct inner) no_values in
    let wrapped : Tys = one_type (struct (one_type field_type)) in
    let fields : SpellFields inner field_depth order 0 (one_type field_type) bytes = (bytes, [], h, refl, sym (append-nil bytes)) in
    let spelled : Spells order 0 wrapped outer bytes = (refl, (bytes, [], (lit< tt, refl, bytes, fields, refl), refl, sym (append-nil bytes))) in
    let a = bind_ok (signature_of (codes (types_of_values outer))) (λ ts. fields_written outer 64 order 0 []) bytes (is_written order 0 wrapped outer bytes spelled) in
    let b = bind_ok (fields_written inner field_depth order 0 []) (λ more. fields_written no_values 64 order 0 more) bytes a.2 in
    let c = bind_ok (value_written (field_value f) field_depth order 0 []) (λ more. fields_written no_values field_depth order 0 more) b.0 b.1 in
    ap (λ (r : Result (List ℕ) MarshalFault). result_unwrap_or r []) c.1 ∙ ok_is c.0 b.0 c.2 ∙ ok_is b.0 bytes b.2

spelled_at : (order : Order) (at bt : ℕ) (f : Field) (bytes : List ℕ) → at % 8 ≡ bt % 8 → SpellField order at f bytes → SpellField order bt f bytes
spelled_at order at bt f bytes e h = value_moves (field_value f) field_depth order at bt field_type bytes e h

-- each of the fields is spelled by its bytes
abbrev pub AreSpelledSo : Order → List Field → Type 0
AreSpelledSo order [] = Unit {0}
AreSpelledSo order (f ∷ fs) = SpellField order 0 f (field_bytes order f) × AreSpelledSo order fs

pub elements_spelled : (order : Order) (at : ℕ) (fs : List Field) → AreSpelledSo order fs → SpellElements (values (map field_value fs)) field_depth order at field_type (lined_up at (map (field_bytes order) fs))
elements_spelled order at [] h = refl
elements_spelled order at (f ∷ fs) h =
    let text : List ℕ = field_bytes order f in
    let next : ℕ = at + pad_len 8 at + length text in
    let rest : List ℕ = lined_up next (map (field_bytes order) fs) in
    let place : next ≡ at + length (pads 8 at ++ text) = omega (arith, length-append (pads 8 at) text, length-pads at) in (
      pads 8 at ++ text,
      rest,
      padded_spelled order at f text (spelled_at order 0 (at + pad_len 8 at) f text (omega arith) h.0),
      subst (λ (n : ℕ). SpellElements (values (map field_value fs)) field_depth order n field_type rest) place (elements_spelled order next fs h.1),
      sym (append_assoc (pads 8 at) text rest),
    )

pub placed_spelled : (order : Order) (bytes : List ℕ) (p : FieldPlace) (f : Field) → IsPlaced order bytes p f → SpellField order 0 f (text_at bytes p)
placed_spelled order bytes p f h = spelled_at order p.from 0 f (text_at bytes p) h.aligned h.spelled

pub placed_bytes : (order : Order) (bytes : List ℕ) (p : FieldPlace) (f : Field) → IsPlaced order bytes p f → field_bytes order f ≡ text_at bytes p
placed_bytes order bytes p f h = bytes_of order f (text_at bytes p) (placed_spelled order bytes p f h)

pub are_spelled : (order : Order) (bytes : List ℕ) (ps : List FieldPlace) (fs : List Field) → ArePlaced order bytes ps fs → AreSpelledSo order fs
are_spelled order bytes [] [] h = tt
are_spelled order bytes [] (f ∷ fs) h = absurd h
are_spelled order bytes (p ∷ ps) [] h = absurd h
are_spelled order bytes (p ∷ ps) (f ∷ fs) h =
    (subst (SpellField order 0 f) (sym (placed_bytes order bytes p f h.0)) (placed_spelled order bytes p f h.0), are_spelled order bytes ps fs h.1)

pub are_within : (order : Order) (bytes : List ℕ) (ps : List FieldPlace) (fs : List Field) → ArePlaced order bytes ps fs → AreWithin (length bytes) ps
are_within order bytes [] [] h = tt
are_within order bytes [] (f ∷ fs) h = absurd h
are_within order bytes (p ∷ ps) [] h = absurd h
are_within order bytes (p ∷ ps) (f ∷ fs) h = (h.0.begins, h.0.ends, are_within order bytes ps fs h.1)

pub placed_map : (order : Order) (bytes : List ℕ) (ps : List FieldPlace) (fs : List Field) → ArePlaced order bytes ps fs → map (field_bytes order) fs ≡ map (text_at bytes) ps
placed_map order bytes [] [] h = refl
placed_map order bytes [] (f ∷ fs) h = absurd h
placed_map order bytes (p ∷ ps) [] h = absurd h
placed_map order bytes (p ∷ ps) (f ∷ fs) h =
    ap (λ (x : List ℕ). x ∷ map (field_bytes order) fs) (placed_bytes order bytes p f h.0) ∙ ap (λ (xs : List (List ℕ)). text_at bytes p ∷ xs) (placed_map order bytes ps fs h.1)
