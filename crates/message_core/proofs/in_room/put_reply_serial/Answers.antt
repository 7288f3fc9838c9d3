use Rattle.std.proofs.Common.{arith, ap, ◌∙◌, ◌++◌, append_assoc, List, ℕ, length, [], ◌∷◌}
use Rattle.std.specs.Int.{w32}
use Rattle.marshal_core.specs.Spelling.{pads, number_bytes}
use Rattle.marshal_core.specs.Values.{a_uint32}
use Rattle.message_core.specs.declared.header_field.HeaderField.TheVariants as field
use Rattle.message_core.proofs.Putting.{one_more, text_bytes}
use Rattle.message_core.proofs.in_room.put_reply_serial.Goals as goal

pub returns-clause-put : goal.returns-clause-put
returns-clause-put g c = λ sent h.
    let old : List ℕ = c.args.fields.now.items in
    let start : List ℕ = 5 ∷ 1 ∷ 117 ∷ 0 ∷ [] in
    let word : List ℕ = number_bytes g.E.Endian.order w32 c.args.serial in
    one_more g.E.Endian.order sent field.ReplySerial (a_uint32 c.args.serial) old c.put_number.new.output.items (omega arith) h
    (text_bytes old (pads 8 (length old)) start word c.put_number.new.output.items
    (c.put_number.ensures.items ∙ ap (λ (x : List ℕ). x ++ word) (c.put_start.ensures.items ∙ ap (λ (n : ℕ). old ++ (pads 8 n ++ start)) (c.len-at.ensures ∙ c.args.fields.now.ok.0)) ∙ append_assoc old (pads 8 (length old) ++ start) word))
