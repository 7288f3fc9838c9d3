use Rattle.std.proofs.Common.{◌≡◌, ◌+◌, ℕ, length, get_or, arith, ap, ◌∙◌}
use Rattle.std.proofs.lemmas.List.{length-append}
use Rattle.marshal_core.specs.Spelling.{pad_len, pads}
use Rattle.message_core.specs.declared.field_place.FieldPlace.{FieldPlace}
use Rattle.message.proofs.Lines.{first_end, first_within, length-pads, length-text}
use Rattle.message.proofs.putting.put_fields.Goals as goal

abbrev none : FieldPlace
none = record { code = 0; from = 0; to = 0 }

pub put_padding-requires : goal.put_padding-requires
put_padding-requires c =
    let first = first_end c.loop-field.end c.loop-field.field-index c.args.fields.now none c.loop-field-test.true in
    omega (arith, first, c.loop-field.invariant.room)

pub put-requires : goal.put-requires
put-requires c =
    let first = first_end c.loop-field.end c.loop-field.field-index c.args.fields.now none c.loop-field-test.true in
    let p : FieldPlace = get_or c.args.fields.now c.loop-field.field-index none in
    let within = first_within (length c.args.bytes.now) c.loop-field.field-index c.args.fields.now none c.loop-field-test.true c.loop-field.invariant.within in
    let padded : length c.put_padding.new.output.items ≡ length c.loop-field.output.items + pad_len 8 c.loop-field.end =
    ap length c.put_padding.ensures.items ∙ length-append c.loop-field.output.items (pads 8 c.loop-field.end) ∙ ap (λ (n : ℕ). length c.loop-field.output.items + n) (length-pads c.loop-field.end) in
    omega (arith, first, padded, length-text c.args.bytes.now p within.0 within.1, c.loop-field.invariant.room, c.put_padding.ensures.capacity)

pub behind-end-requires : goal.behind-end-requires
behind-end-requires c =
    let first = first_end c.loop-field.end c.loop-field.field-index c.args.fields.now none c.loop-field-test.true in
    omega (arith, first, c.loop-field.invariant.small)
