use Rattle.std.proofs.Common.{◌≡◌, ◌+◌, ◌-◌, ◌++◌, ℕ, List, Ok, length, take, arith, sym, ap, ◌∙◌}
use Rattle.std.specs.Int.{w32}
use Rattle.std.proofs.lemmas.List.{length-append}
use Rattle.std.proofs.lemmas.Result.{err_from_is_err_and}
use Rattle.marshal_core.specs.Spelling.{number_bytes, pads}
use Rattle.marshal_core.specs.declared.order.Order.{Order}
use Rattle.message_core.specs.declared.field_place.FieldPlace.{FieldPlace}
use Rattle.message_core.specs.Said.{said}
use Rattle.message.specs.MessageBytes.{fields_bytes, message_bytes}
use Rattle.message.specs.Layout.{behind, fields_end, copied, last_end}
use Rattle.message.proofs.Lines.{copied_end}
use Rattle.message.proofs.PartLemmas.{Facts, facts, ready, length_is, put_together, started}
use Rattle.message.proofs.Ready.{ready_written}
use Rattle.message.proofs.Refusals.{refused, accepted, fields_too_long, whole_too_long, bad}
use Rattle.message.proofs.relaying.write.Goals as goal

-- where the fields end
end_is : (bytes body : List ℕ) (ps : List FieldPlace) → Facts bytes body ps → fields_end 16 ps ≡ 16 + length (fields_bytes (said bytes))
end_is bytes body ps f = copied_end bytes 16 ps f.inside ∙ ap (λ (x : List ℕ). 16 + length x) f.fields

pub fields_end-requires-clause-within : goal.fields_end-requires-clause-within
fields_end-requires-clause-within c =
    (facts c.args.message.now c.parts_of-parts.result.body.now c.parts_of-parts.result.fields.now c.parts_of-parts.ensures.lies).within

pub returns-in_err-end-clause-too_long : goal.returns-in_err-end-clause-too_long
returns-in_err-end-clause-too_long c =
    let ps = c.parts_of-parts.result.fields.now in
    let f = facts c.args.message.now c.parts_of-parts.result.body.now ps c.parts_of-parts.ensures.lies in
    let p = err_from_is_err_and c.from_residual.result c.from_residual.ensures.1 in
    fields_too_long (said c.args.message.now) (fields_end 16 ps) c.from_residual.result p.0 c.in_err-end.field-0.0 (end_is c.args.message.now c.parts_of-parts.result.body.now ps f) p.1 p.2 (refused last_end (fields_end 16 ps) c.in_err-end.field-0.0 c.in_err-end.ensures)

pub make_room-requires-clause-small : goal.make_room-requires-clause-small
make_room-requires-clause-small c =
    let f = facts c.args.message.now c.parts_of-parts.result.body.now c.parts_of-parts.result.fields.now c.parts_of-parts.ensures.lies in
    omega (arith, f.body_short)

pub returns-in_err-make_room-clause-too_long : goal.returns-in_err-make_room-clause-too_long
returns-in_err-make_room-clause-too_long c =
    let ps = c.parts_of-parts.result.fields.now in
    let body = c.parts_of-parts.result.body.now in
    let m = said c.args.message.now in
    let f = facts c.args.message.now body ps c.parts_of-parts.ensures.lies in
    let a = accepted last_end (fields_end 16 ps) c.in_ok-end.end c.in_ok-end.ensures in
    let end : c.in_ok-end.end ≡ 16 + length (fields_bytes m) = a.0 ∙ end_is c.args.message.now body ps f in
    let size : behind c.in_ok-end.end (length body) ≡ length (message_bytes m) = sym (length_is m body c.in_ok-end.end f.body_is end) in
    let p = err_from_is_err_and c.from_residual-in_err-make_room.result c.from_residual-in_err-make_room.ensures.1 in
    let same = p.1 ∙ ap bad p.2 ∙ sym c.in_err-make_room.was in
    let h = whole_too_long m c.in_ok-end.end (behind c.in_ok-end.end (length body)) c.make_room.result end size (omega (arith, a.0, a.1)) c.make_room.ensures.too_long in
    (λ k. h.0 (sym same ∙ k), λ k. same ∙ h.1 k)

pub returns-in_err-make_room-clause-memory : goal.returns-in_err-make_room-clause-memory
returns-in_err-make_room-clause-memory c =
    let ps = c.parts_of-parts.result.fields.now in
    let body = c.parts_of-parts.result.body.now in
    let m = said c.args.message.now in
    let f = facts c.args.message.now body ps c.parts_of-parts.ensures.lies in
    let a = accepted last_end (fields_end 16 ps) c.in_ok-end.end c.in_ok-end.ensures in
    let end : c.in_ok-end.end ≡ 16 + length (fields_bytes m) = a.0 ∙ end_is c.args.message.now body ps f in
    let size : behind c.in_ok-end.end (length body) ≡ length (message_bytes m) = sym (length_is m body c.in_ok-end.end f.body_is end) in
    let p = err_from_is_err_and c.from_residual-in_err-make_room.result c.from_residual-in_err-make_room.ensures.1 in
    let same = p.1 ∙ ap bad p.2 ∙ sym c.in_err-make_room.was in
    λ k. omega (arith, size, c.make_room.ensures.memory (sym same ∙ k))

pub put_fixed_part-requires-clause-begins : goal.put_fixed_part-requires-clause-begins
put_fixed_part-requires-clause-begins c =
    let ps = c.parts_of-parts.result.fields.now in
    let f = facts c.args.message.now c.parts_of-parts.result.body.now ps c.parts_of-parts.ensures.lies in
    let a = accepted last_end (fields_end 16 ps) c.in_ok-end.end c.in_ok-end.ensures in
    omega (arith, a.0, end_is c.args.message.now c.parts_of-parts.result.body.now ps f)

pub put_fixed_part-requires-clause-room : goal.put_fixed_part-requires-clause-room
put_fixed_part-requires-clause-room c =
    let ps = c.parts_of-parts.result.fields.now in
    let f = facts c.args.message.now c.parts_of-parts.result.body.now ps c.parts_of-parts.ensures.lies in
    let a = accepted last_end (fields_end 16 ps) c.in_ok-end.end c.in_ok-end.ensures in
    omega (arith, a.0, end_is c.args.message.now c.parts_of-parts.result.body.now ps f, ap length c.make_room.ensures.kept, c.in_ok-make_room.ensures.room)

pub put_fields-requires-clause-within : goal.put_fields-requires-clause-within
put_fields-requires-clause-within c =
    let f = facts c.args.message.now c.parts_of-parts.result.body.now c.parts_of-parts.result.fields.now c.parts_of-parts.ensures.lies in
    rw c.parts_of-parts.ensures.bytes f.inside

pub put_body-requires : goal.put_body-requires
put_body-requires c =
    let ps = c.parts_of-parts.result.fields.now in
    let body = c.parts_of-parts.result.body.now in
    let m = said c.args.message.now in
    let f = facts c.args.message.now body ps c.parts_of-parts.ensures.lies in
    let a = accepted last_end (fields_end 16 ps) c.in_ok-end.end c.in_ok-end.ensures in
    let end : c.in_ok-end.end ≡ 16 + length (fields_bytes m) = a.0 ∙ end_is c.args.message.now body ps f in
    let out : length c.put_fixed_part.new.output.items ≡ length c.make_room.new.output.items + 16 = started c.parts_of-parts.result.order c.parts_of-parts.result.bytes.now c.make_room.new.output.items c.put_fixed_part.new.output.items (c.in_ok-end.end - 16) (rw c.parts_of-parts.ensures.bytes f.long) c.put_fixed_part.ensures.items in
    let fields : length (copied c.parts_of-parts.result.bytes.now 16 ps) ≡ length (fields_bytes m) = ap (λ (b : List ℕ). length (copied b 16 ps)) c.parts_of-parts.ensures.bytes ∙ ap length f.fields in
    omega (arith, out, fields, end, ap length c.put_fields.ensures.items, length-append c.put_fixed_part.new.output.items (copied c.parts_of-parts.result.bytes.now 16 ps), ap length c.make_room.ensures.kept, c.in_ok-make_room.ensures.room, c.put_fixed_part.ensures.capacity, c.put_fields.ensures.capacity)

pub returns-clause-appended : goal.returns-clause-appended
returns-clause-appended c =
    let ps = c.parts_of-parts.result.fields.now in
    let body = c.parts_of-parts.result.body.now in
    let m = said c.args.message.now in
    let f = facts c.args.message.now body ps c.parts_of-parts.ensures.lies in
    let a = accepted last_end (fields_end 16 ps) c.in_ok-end.end c.in_ok-end.ensures in
    let end : c.in_ok-end.end ≡ 16 + length (fields_bytes m) = a.0 ∙ end_is c.args.message.now body ps f in
    let old : List ℕ = c.args.output.now.items in
    let bytes : List ℕ = c.args.message.now in
    let word : List ℕ = number_bytes m.order w32 (c.in_ok-end.end - 16) in
    let one : c.put_fixed_part.new.output.items ≡ old ++ (take 12 bytes ++ word) =
    c.put_fixed_part.ensures.items ∙ ap (λ (x : List ℕ). x ++ (take 12 c.parts_of-parts.result.bytes.now ++ number_bytes c.parts_of-parts.result.order w32 (c.in_ok-end.end - 16))) c.make_room.ensures.kept
    ∙ ap (λ (x : List ℕ). old ++ (take 12 x ++ number_bytes c.parts_of-parts.result.order w32 (c.in_ok-end.end - 16))) c.parts_of-parts.ensures.bytes ∙ ap (λ (o : Order). old ++ (take 12 bytes ++ number_bytes o w32 (c.in_ok-end.end - 16))) c.parts_of-parts.ensures.order in
    let two : c.put_fields.new.output.items ≡ (old ++ (take 12 bytes ++ word)) ++ copied bytes 16 ps =
    c.put_fields.ensures.items ∙ ap (λ (x : List ℕ). x ++ copied c.parts_of-parts.result.bytes.now 16 ps) one ∙ ap (λ (x : List ℕ). (old ++ (take 12 bytes ++ word)) ++ copied x 16 ps) c.parts_of-parts.ensures.bytes in
    put_together m bytes body old (copied bytes 16 ps) c.put_body.new.output.items c.in_ok-end.end f.start_is f.body_is f.fields end (c.put_body.ensures.items ∙ ap (λ (x : List ℕ). x ++ (pads 8 c.in_ok-end.end ++ body)) two)

pub returns-clause-written : goal.returns-clause-written
returns-clause-written c =
    let ps = c.parts_of-parts.result.fields.now in
    let body = c.parts_of-parts.result.body.now in
    let m = said c.args.message.now in
    let f = facts c.args.message.now body ps c.parts_of-parts.ensures.lies in
    let a = accepted last_end (fields_end 16 ps) c.in_ok-end.end c.in_ok-end.ensures in
    let end : c.in_ok-end.end ≡ 16 + length (fields_bytes m) = a.0 ∙ end_is c.args.message.now body ps f in
    ready_written m (ready c.args.message.now body ps c.parts_of-parts.ensures.lies) (omega (arith, a.0, a.1, end))

pub returns-clause-too_long : goal.returns-clause-too_long
returns-clause-too_long c =
    let ps = c.parts_of-parts.result.fields.now in
    let body = c.parts_of-parts.result.body.now in
    let m = said c.args.message.now in
    let f = facts c.args.message.now body ps c.parts_of-parts.ensures.lies in
    let a = accepted last_end (fields_end 16 ps) c.in_ok-end.end c.in_ok-end.ensures in
    let end : c.in_ok-end.end ≡ 16 + length (fields_bytes m) = a.0 ∙ end_is c.args.message.now body ps f in
    let size : behind c.in_ok-end.end (length body) ≡ length (message_bytes m) = sym (length_is m body c.in_ok-end.end f.body_is end) in
    whole_too_long m c.in_ok-end.end (behind c.in_ok-end.end (length body)) (Ok tt) end size (omega (arith, a.0, a.1)) c.in_ok-make_room.ensures.too_long
