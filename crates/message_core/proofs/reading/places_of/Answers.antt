use Rattle.std.proofs.Common.{ℕ, ◌≡◌, ◌+◌, ◌-◌, ◌%◌, List, Ok, None, true, take, drop, arith, subst, sym, ap, ◌∙◌, get_or, length}
use Rattle.std.proofs.lemmas.List.{take_all, length-drop}
use Rattle.marshal_core.specs.declared.order.Order.{Order}
use Rattle.marshal_core.specs.Types.{Tys}
use Rattle.marshal_core.specs.Signatures.{signature_of}
use Rattle.match_rules.specs.declared.kind.MessageKind.{MessageKind}
use Rattle.match_rules.specs.Kinds.{kind_of}
use Rattle.message_core.specs.declared.field_place.FieldPlace.{FieldPlace}
use Rattle.message_core.specs.Announcements.{number}
use Rattle.message_core.specs.Kinds.{required}
use Rattle.message_core.specs.HeaderFields.{by_code}
use Rattle.message_core.specs.Places.{part, all_zero, HaveFields}
use Rattle.message_core.specs.Said.{order_of}
use Rattle.message_core.specs.Whole.{unplaced, IsBody, signature_part, place_of, body_begin, fields_end}
use Rattle.std.proofs.lemmas.Result.{err_from_is_err_and}
use Rattle.message_core.proofs.Wholes.{whole, signature_room}
use Rattle.message_core.proofs.Refused.{is_at, missing_refused, body_refused}
use Rattle.message_core.proofs.reading.places_of.Goals as goal

pub signature_text-requires : goal.signature_text-requires
signature_text-requires c =
    let have = c.in_ok-places.ensures.fields in
    rw c.deref-2.ensures.value (signature_room c.order_of-order.result c.args.bytes.now c.in_ok-places.places.items (by_code have.sent) have.placed)

pub returns-clause-whole : goal.returns-clause-whole
returns-clause-whole c =
    let bytes = c.args.bytes.now in
    let ps : List FieldPlace = c.in_ok-places.places.items in
    let len : ℕ = c.number-length.result in
    let order : c.order_of-order.result ≡ order_of bytes = c.order_of-order.ensures in
    let n : len ≡ number (order_of bytes) 12 bytes = c.number-length.ensures.value ∙ ap (λ (o : Order). number o 12 bytes) order in
    let end : 16 + len ≡ fields_end bytes = ap (λ (k : ℕ). 16 + k) n in
    let begin : 16 + len + (8 - len % 8) % 8 ≡ body_begin bytes = ap (λ (k : ℕ). 16 + k + (8 - k % 8) % 8) n ∙ omega arith in
    let have : HaveFields (order_of bytes) bytes (fields_end bytes) ps =
    subst (λ (k : ℕ). HaveFields (order_of bytes) bytes k ps) end (subst (λ (o : Order). HaveFields o bytes (16 + len) ps) order c.in_ok-places.ensures.fields) in
    let gap : all_zero (part (fields_end bytes) (body_begin bytes) bytes) ≡ true =
    ap (λ (k : ℕ). all_zero (part k (body_begin bytes) bytes)) (sym end) ∙ ap (λ (k : ℕ). all_zero (part (16 + len) k bytes)) (sym begin) ∙ sym c.is_zero.ensures ∙ c.if-not-is_zero.false in
    let complete : unplaced (required (kind_of (get_or bytes 1 0))) ps ≡ None =
    ap (λ (k : MessageKind). unplaced (required k) ps) (sym c.from.ensures) ∙ ap (unplaced (required c.from.result)) (sym c.deref.ensures.value) ∙ c.in_ok-check_required.ensures.complete in
    let text : c.signature_text.result.now ≡ signature_part (place_of 8 ps) bytes = c.signature_text.ensures ∙ ap (λ (x : List FieldPlace). signature_part (place_of 8 x) bytes) c.deref-2.ensures.value in
    let body : (types : Tys) → signature_of (signature_part (place_of 8 ps) bytes) ≡ Ok types → IsBody (order_of bytes) types (drop (body_begin bytes) bytes) =
    λ types e. subst (λ (k : ℕ). IsBody (order_of bytes) types (drop k bytes)) begin (subst (λ (o : Order). IsBody o types (drop (16 + len + (8 - len % 8) % 8) bytes)) order (subst (IsBody c.order_of-order.result types) (take_all (length bytes - (16 + len + (8 - len % 8) % 8)) (drop (16 + len + (8 - len % 8) % 8) bytes) (omega (arith, length-drop (16 + len + (8 - len % 8) % 8) bytes))) (c.in_ok-check_body.ensures.body types (ap signature_of text ∙ e)))) in
    whole bytes ps c.requires.fixed (λ i. omega (arith, c.type_inv.bytes i)) 134217728 (omega arith) c.requires.whole have gap complete body

pub returns-in_err-check_required-clause-fault : goal.returns-in_err-check_required-clause-fault
returns-in_err-check_required-clause-fault c =
    let bytes = c.args.bytes.now in
    let ps : List FieldPlace = c.in_ok-places.places.items in
    let len : ℕ = c.number-length.result in
    let missing = c.in_err-check_required.ensures.missing in
    let at = is_at bytes c.order_of-order.result len c.order_of-order.ensures c.number-length.ensures.value in
    let p = err_from_is_err_and c.from_residual-in_err-check_required.result c.from_residual-in_err-check_required.ensures.1 in
    rw (p.1, p.2)
    (λ other. missing_refused bytes c.order_of-order.result (16 + len) (16 + len + (8 - len % 8) % 8) ps c.from.result missing.0 c.in_err-check_required.field-0.0 at c.in_ok-places.ensures.fields (sym c.is_zero.ensures ∙ c.if-not-is_zero.false)
    c.from.ensures missing.1 (ap (unplaced (required c.from.result)) (sym c.deref.ensures.value) ∙ missing.2))

pub returns-in_err-check_body-clause-fault : goal.returns-in_err-check_body-clause-fault
returns-in_err-check_body-clause-fault c =
    let bytes = c.args.bytes.now in
    let ps : List FieldPlace = c.in_ok-places.places.items in
    let len : ℕ = c.number-length.result in
    let begin : ℕ = 16 + len + (8 - len % 8) % 8 in
    let at = is_at bytes c.order_of-order.result len c.order_of-order.ensures c.number-length.ensures.value in
    let text : c.signature_text.result.now ≡ signature_part (place_of 8 ps) bytes = c.signature_text.ensures ∙ ap (λ (x : List FieldPlace). signature_part (place_of 8 x) bytes) c.deref-2.ensures.value in
    let p = err_from_is_err_and c.from_residual-in_err-check_body.result c.from_residual-in_err-check_body.ensures.1 in
    rw (p.1, p.2)
    (λ other. body_refused bytes c.order_of-order.result (16 + len) begin ps c.from.result c.signature_text.result.now (take (length bytes - begin) (drop begin bytes)) c.in_err-check_body.field-0.0 at c.in_ok-places.ensures.fields (sym c.is_zero.ensures ∙ c.if-not-is_zero.false)
    c.from.ensures (ap (unplaced (required c.from.result)) (sym c.deref.ensures.value) ∙ c.in_ok-check_required.ensures.complete) text (take_all (length bytes - begin) (drop begin bytes) (omega (arith, length-drop begin bytes))) c.in_err-check_body.ensures.fault)
