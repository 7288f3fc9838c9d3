use Rattle.std.proofs.Common.{◌≡◌, ◌≤◌, OnOk, length, subst, sym, refl, List, ℕ, [], ◌∷◌}
use Rattle.marshal_core.specs.declared.order.Order.TheVariants.{Little}
use Rattle.marshal_core.specs.Values.{a_uint32}
use Rattle.match_rules.specs.declared.kind.MessageKind.TheVariants as kind
use Rattle.match_rules.specs.Kinds.{kind_number}
use Rattle.message_core.specs.declared.header_field.HeaderField.TheVariants as field
use Rattle.message_core.specs.Headers.{AreWritten, known_field, message_of}
use Rattle.driver.specs.Answered.{ReplyTo}
use Rattle.driver.specs.OwnMessages.{reply_header, Writes}
use Rattle.driver.specs.Layout.{own_bytes}
use Rattle.driver.proofs.Sound.{reply_fields, reply_is, reply_sound}
use Rattle.driver.proofs.Written.{is_written, writes}
use Rattle.driver.proofs.reply.put_reply.Goals as goal

pub returns-clause-ok : goal.returns-clause-ok
returns-clause-ok c = λ types values e spelled.
    let array : List ℕ = c.deref.result.now in
    let body : List ℕ = c.args.body.now in
    let to : ReplyTo = record { caller = c.caller.result; call = c.call.result } in
    let same : to ≡ c.args.to = reply_is c.args.to c.caller.result c.call.result c.caller.ensures c.call.ensures.value in
    let written : AreWritten Little (reply_fields to types) array =
    subst (AreWritten Little (reply_fields to types)) (sym c.deref.ensures.value)
    (c.put_end.ensures.put types (known_field field.ReplySerial (a_uint32 to.call) ∷ []) e spelled.0 (c.put_reply_serial.ensures.put [] c.in_ok-fields.ensures.items)) in
    subst (λ (t : ReplyTo). OnOk c.append_message.result (Writes c.args.out.now.items c.append_message.new.out.items (message_of (reply_header c.args.serial t) types values))) same
    (writes c.append_message.result c.args.out.now.items c.append_message.new.out.items body (own_bytes (kind_number kind.MethodReturn) c.args.serial array body) (message_of (reply_header c.args.serial to) types values)
    c.append_message.ensures.ok c.append_message.ensures.fits
    (λ fits. is_written kind.MethodReturn c.args.serial (reply_fields to types) types values array body (own_bytes (kind_number kind.MethodReturn) c.args.serial array body)
    (reply_sound c.args.serial to types (c.requires.serial, c.ranges.serial.fits) c.call.ensures.positive c.put_end.ensures.named) (subst (λ (x : List ℕ). length x ≤ 512) (sym c.deref.ensures.value) c.put_end.ensures.fits) fits written spelled refl))
