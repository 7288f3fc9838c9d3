use Rattle.std.proofs.Common.{◌≡◌, refl, ◌+◌, ◌-◌, ◌≤◌, ◌++◌, ℕ, List, Ok, length, take, arith, sym, ap, ◌∙◌}
use Rattle.std.specs.Int.{w32}
use Rattle.std.proofs.lemmas.List.{length-append}
use Rattle.std.proofs.lemmas.Result.{err_from_is_err_and}
use Rattle.marshal_core.specs.declared.order.Order.{Order}
use Rattle.marshal_core.specs.Spelling.{number_bytes, pads}
use Rattle.message_core.specs.Said.{said}
use Rattle.message.specs.MessageBytes.{fields_bytes, body_bytes, message_bytes}
use Rattle.message.specs.Senders.{sent_by}
use Rattle.message.specs.Layout.{count_below, behind, copied, sender_bytes, sent_end, known_places, last_end}
use Rattle.message.proofs.Lines.{within_take, within_drop}
use Rattle.message.proofs.Known.{within_known}
use Rattle.message.proofs.PartLemmas.{facts, sent_facts, sent_fields_are, length_is, put_together, started}
use Rattle.message.proofs.Ready.{ready_written}
use Rattle.message.proofs.Refusals.{fields_too_long, whole_too_long, bad}
use Rattle.message.proofs.relaying.put_sent.Goals as goal

pub layout_of-requires-clause-within : goal.layout_of-requires-clause-within
layout_of-requires-clause-within c =
    let ps = c.parts_of-parts.result.fields.now in
    let body = c.parts_of-parts.result.body.now in
    let f = facts c.args.message.now body ps c.parts_of-parts.ensures.lies in
    f.within

pub returns-in_err-layout-clause-too_long : goal.returns-in_err-layout-clause-too_long
returns-in_err-layout-clause-too_long c =
    let ps = c.parts_of-parts.result.fields.now in
    let body = c.parts_of-parts.result.body.now in
    let f = facts c.args.message.now body ps c.parts_of-parts.ensures.lies in
    let bytes = c.args.message.now in
    let name = c.args.name.now in
    let m = sent_by name (said bytes) in
    let s = sent_facts bytes body name ps c.requires c.utf8.name c.parts_of-parts.ensures.lies in
    let last : sent_end name (known_places ps) ≡ 16 + length (fields_bytes m) = s.end in
    let p = err_from_is_err_and c.from_residual.result c.from_residual.ensures.1 in
    fields_too_long m (sent_end name (known_places ps)) c.from_residual.result p.0 c.in_err-layout.field-0.0 last p.1 p.2 c.in_err-layout.ensures.too_long

pub make_room-requires-clause-small : goal.make_room-requires-clause-small
make_room-requires-clause-small c =
    let ps = c.parts_of-parts.result.fields.now in
    let body = c.parts_of-parts.result.body.now in
    let f = facts c.args.message.now body ps c.parts_of-parts.ensures.lies in
    omega (arith, f.body_short)

pub returns-in_err-make_room-clause-too_long : goal.returns-in_err-make_room-clause-too_long
returns-in_err-make_room-clause-too_long c =
    let ps = c.parts_of-parts.result.fields.now in
    let body = c.parts_of-parts.result.body.now in
    let f = facts c.args.message.now body ps c.parts_of-parts.ensures.lies in
    let bytes = c.args.message.now in
    let name = c.args.name.now in
    let m = sent_by name (said bytes) in
    let s = sent_facts bytes body name ps c.requires c.utf8.name c.parts_of-parts.ensures.lies in
    let last : sent_end name (known_places ps) ≡ 16 + length (fields_bytes m) = s.end in
    let layout = c.in_ok-layout.layout in
    let end : layout.end ≡ 16 + length (fields_bytes m) = c.in_ok-layout.ensures.end ∙ last in
    let short : layout.end ≤ last_end = omega (arith, c.in_ok-layout.ensures.end, c.in_ok-layout.ensures.too_long) in
    let body_is : body_bytes m ≡ body = s.body ∙ f.body_is in
    let size : behind layout.end (length body) ≡ length (message_bytes m) = sym (length_is m body layout.end body_is end) in
    let p = err_from_is_err_and c.from_residual-in_err-make_room.result c.from_residual-in_err-make_room.ensures.1 in
    let same = p.1 ∙ ap bad p.2 ∙ sym c.in_err-make_room.was in
    let h = whole_too_long m layout.end (behind layout.end (length body)) c.make_room.result end size short c.make_room.ensures.too_long in
    (λ k. h.0 (sym same ∙ k), λ k. same ∙ h.1 k)

pub returns-in_err-make_room-clause-memory : goal.returns-in_err-make_room-clause-memory
returns-in_err-make_room-clause-memory c =
    let ps = c.parts_of-parts.result.fields.now in
    let body = c.parts_of-parts.result.body.now in
    let f = facts c.args.message.now body ps c.parts_of-parts.ensures.lies in
    let bytes = c.args.message.now in
    let name = c.args.name.now in
    let m = sent_by name (said bytes) in
    let s = sent_facts bytes body name ps c.requires c.utf8.name c.parts_of-parts.ensures.lies in
    let last : sent_end name (known_places ps) ≡ 16 + length (fields_bytes m) = s.end in
    let layout = c.in_ok-layout.layout in
    let end : layout.end ≡ 16 + length (fields_bytes m) = c.in_ok-layout.ensures.end ∙ last in
    let short : layout.end ≤ last_end = omega (arith, c.in_ok-layout.ensures.end, c.in_ok-layout.ensures.too_long) in
    let body_is : body_bytes m ≡ body = s.body ∙ f.body_is in
    let size : behind layout.end (length body) ≡ length (message_bytes m) = sym (length_is m body layout.end body_is end) in
    let p = err_from_is_err_and c.from_residual-in_err-make_room.result c.from_residual-in_err-make_room.ensures.1 in
    let same = p.1 ∙ ap bad p.2 ∙ sym c.in_err-make_room.was in
    λ k. omega (arith, size, c.make_room.ensures.memory (sym same ∙ k))

pub put_fixed_part-requires-clause-begins : goal.put_fixed_part-requires-clause-begins
put_fixed_part-requires-clause-begins c =
    let ps = c.parts_of-parts.result.fields.now in
    let body = c.parts_of-parts.result.body.now in
    let f = facts c.args.message.now body ps c.parts_of-parts.ensures.lies in
    let bytes = c.args.message.now in
    let name = c.args.name.now in
    let m = sent_by name (said bytes) in
    let s = sent_facts bytes body name ps c.requires c.utf8.name c.parts_of-parts.ensures.lies in
    let last : sent_end name (known_places ps) ≡ 16 + length (fields_bytes m) = s.end in
    let layout = c.in_ok-layout.layout in
    let end : layout.end ≡ 16 + length (fields_bytes m) = c.in_ok-layout.ensures.end ∙ last in
    let short : layout.end ≤ last_end = omega (arith, c.in_ok-layout.ensures.end, c.in_ok-layout.ensures.too_long) in
    omega (arith, end)

pub put_fixed_part-requires-clause-room : goal.put_fixed_part-requires-clause-room
put_fixed_part-requires-clause-room c =
    let ps = c.parts_of-parts.result.fields.now in
    let body = c.parts_of-parts.result.body.now in
    let f = facts c.args.message.now body ps c.parts_of-parts.ensures.lies in
    let bytes = c.args.message.now in
    let name = c.args.name.now in
    let m = sent_by name (said bytes) in
    let s = sent_facts bytes body name ps c.requires c.utf8.name c.parts_of-parts.ensures.lies in
    let last : sent_end name (known_places ps) ≡ 16 + length (fields_bytes m) = s.end in
    let layout = c.in_ok-layout.layout in
    let end : layout.end ≡ 16 + length (fields_bytes m) = c.in_ok-layout.ensures.end ∙ last in
    let short : layout.end ≤ last_end = omega (arith, c.in_ok-layout.ensures.end, c.in_ok-layout.ensures.too_long) in
    omega (arith, end, ap length c.make_room.ensures.kept, c.in_ok-make_room.ensures.room)

pub put_sent_fields-requires-clause-before : goal.put_sent_fields-requires-clause-before
put_sent_fields-requires-clause-before c =
    let ps = c.parts_of-parts.result.fields.now in
    let body = c.parts_of-parts.result.body.now in
    let f = facts c.args.message.now body ps c.parts_of-parts.ensures.lies in
    rw (c.parts_of-parts.ensures.bytes, c.in_ok-layout.ensures.before) (within_take (length c.args.message.now) (count_below 7 (known_places ps)) (known_places ps) (within_known (length c.args.message.now) ps f.inside))

pub put_sent_fields-requires-clause-after : goal.put_sent_fields-requires-clause-after
put_sent_fields-requires-clause-after c =
    let ps = c.parts_of-parts.result.fields.now in
    let body = c.parts_of-parts.result.body.now in
    let f = facts c.args.message.now body ps c.parts_of-parts.ensures.lies in
    rw (c.parts_of-parts.ensures.bytes, c.in_ok-layout.ensures.after) (within_drop (length c.args.message.now) (count_below 8 (known_places ps)) (known_places ps) (within_known (length c.args.message.now) ps f.inside))

pub put_body-requires : goal.put_body-requires
put_body-requires c =
    let ps = c.parts_of-parts.result.fields.now in
    let body = c.parts_of-parts.result.body.now in
    let f = facts c.args.message.now body ps c.parts_of-parts.ensures.lies in
    let bytes = c.args.message.now in
    let name = c.args.name.now in
    let m = sent_by name (said bytes) in
    let s = sent_facts bytes body name ps c.requires c.utf8.name c.parts_of-parts.ensures.lies in
    let last : sent_end name (known_places ps) ≡ 16 + length (fields_bytes m) = s.end in
    let layout = c.in_ok-layout.layout in
    let end : layout.end ≡ 16 + length (fields_bytes m) = c.in_ok-layout.ensures.end ∙ last in
    let short : layout.end ≤ last_end = omega (arith, c.in_ok-layout.ensures.end, c.in_ok-layout.ensures.too_long) in
    let there = c.parts_of-parts.result.bytes.now in
    let order = c.parts_of-parts.result.order in
    let put : List ℕ = copied there 16 layout.before.now ++ ((pads 8 layout.sender ++ sender_bytes order name) ++ copied there layout.next layout.after.now) in
    let fields : put ≡ fields_bytes m =
    sent_fields_are bytes there name name (known_places ps) layout.before.now layout.after.now layout.sender layout.next order c.parts_of-parts.ensures.bytes refl c.in_ok-layout.ensures.before c.in_ok-layout.ensures.after c.in_ok-layout.ensures.sender c.in_ok-layout.ensures.next c.parts_of-parts.ensures.order s in
    let out : length c.put_fixed_part.new.output.items ≡ length c.make_room.new.output.items + 16 = started order there c.make_room.new.output.items c.put_fixed_part.new.output.items (layout.end - 16) (rw c.parts_of-parts.ensures.bytes f.long) c.put_fixed_part.ensures.items in
    omega (arith, out, ap length fields, end, ap length c.put_sent_fields.ensures.items, length-append c.put_fixed_part.new.output.items put, ap length c.make_room.ensures.kept, c.in_ok-make_room.ensures.room, c.put_fixed_part.ensures.capacity, c.put_sent_fields.ensures.capacity)

pub returns-clause-appended : goal.returns-clause-appended
returns-clause-appended c =
    let ps = c.parts_of-parts.result.fields.now in
    let body = c.parts_of-parts.result.body.now in
    let f = facts c.args.message.now body ps c.parts_of-parts.ensures.lies in
    let bytes = c.args.message.now in
    let name = c.args.name.now in
    let m = sent_by name (said bytes) in
    let s = sent_facts bytes body name ps c.requires c.utf8.name c.parts_of-parts.ensures.lies in
    let last : sent_end name (known_places ps) ≡ 16 + length (fields_bytes m) = s.end in
    let layout = c.in_ok-layout.layout in
    let end : layout.end ≡ 16 + length (fields_bytes m) = c.in_ok-layout.ensures.end ∙ last in
    let short : layout.end ≤ last_end = omega (arith, c.in_ok-layout.ensures.end, c.in_ok-layout.ensures.too_long) in
    let body_is : body_bytes m ≡ body = s.body ∙ f.body_is in
    let there = c.parts_of-parts.result.bytes.now in
    let order = c.parts_of-parts.result.order in
    let put : List ℕ = copied there 16 layout.before.now ++ ((pads 8 layout.sender ++ sender_bytes order name) ++ copied there layout.next layout.after.now) in
    let fields : put ≡ fields_bytes m =
    sent_fields_are bytes there name name (known_places ps) layout.before.now layout.after.now layout.sender layout.next order c.parts_of-parts.ensures.bytes refl c.in_ok-layout.ensures.before c.in_ok-layout.ensures.after c.in_ok-layout.ensures.sender c.in_ok-layout.ensures.next c.parts_of-parts.ensures.order s in
    let old : List ℕ = c.args.output.now.items in
    let word : List ℕ = number_bytes m.order w32 (layout.end - 16) in
    let one : c.put_fixed_part.new.output.items ≡ old ++ (take 12 bytes ++ word) =
    c.put_fixed_part.ensures.items ∙ ap (λ (x : List ℕ). x ++ (take 12 there ++ number_bytes order w32 (layout.end - 16))) c.make_room.ensures.kept
    ∙ ap (λ (x : List ℕ). old ++ (take 12 x ++ number_bytes order w32 (layout.end - 16))) c.parts_of-parts.ensures.bytes ∙ ap (λ (o : Order). old ++ (take 12 bytes ++ number_bytes o w32 (layout.end - 16))) c.parts_of-parts.ensures.order in
    let two : c.put_sent_fields.new.output.items ≡ (old ++ (take 12 bytes ++ word)) ++ put = c.put_sent_fields.ensures.items ∙ ap (λ (x : List ℕ). x ++ put) one in
    put_together m bytes body old put c.put_body.new.output.items layout.end f.start_is body_is fields end (c.put_body.ensures.items ∙ ap (λ (x : List ℕ). x ++ (pads 8 layout.end ++ body)) two)

pub returns-clause-written : goal.returns-clause-written
returns-clause-written c =
    let ps = c.parts_of-parts.result.fields.now in
    let body = c.parts_of-parts.result.body.now in
    let f = facts c.args.message.now body ps c.parts_of-parts.ensures.lies in
    let bytes = c.args.message.now in
    let name = c.args.name.now in
    let m = sent_by name (said bytes) in
    let s = sent_facts bytes body name ps c.requires c.utf8.name c.parts_of-parts.ensures.lies in
    let last : sent_end name (known_places ps) ≡ 16 + length (fields_bytes m) = s.end in
    let layout = c.in_ok-layout.layout in
    let end : layout.end ≡ 16 + length (fields_bytes m) = c.in_ok-layout.ensures.end ∙ last in
    let short : layout.end ≤ last_end = omega (arith, c.in_ok-layout.ensures.end, c.in_ok-layout.ensures.too_long) in
    ready_written m s.ready (omega (arith, short, end))

pub returns-clause-too_long : goal.returns-clause-too_long
returns-clause-too_long c =
    let ps = c.parts_of-parts.result.fields.now in
    let body = c.parts_of-parts.result.body.now in
    let f = facts c.args.message.now body ps c.parts_of-parts.ensures.lies in
    let bytes = c.args.message.now in
    let name = c.args.name.now in
    let m = sent_by name (said bytes) in
    let s = sent_facts bytes body name ps c.requires c.utf8.name c.parts_of-parts.ensures.lies in
    let last : sent_end name (known_places ps) ≡ 16 + length (fields_bytes m) = s.end in
    let layout = c.in_ok-layout.layout in
    let end : layout.end ≡ 16 + length (fields_bytes m) = c.in_ok-layout.ensures.end ∙ last in
    let short : layout.end ≤ last_end = omega (arith, c.in_ok-layout.ensures.end, c.in_ok-layout.ensures.too_long) in
    let body_is : body_bytes m ≡ body = s.body ∙ f.body_is in
    let size : behind layout.end (length body) ≡ length (message_bytes m) = sym (length_is m body layout.end body_is end) in
    whole_too_long m layout.end (behind layout.end (length body)) (Ok tt) end size short c.in_ok-make_room.ensures.too_long
