use Rattle.std.proofs.Common.{◌≡◌, ◌≤◌, OnOk, subst, sym, refl, ap, ◌∙◌, List, ℕ, [], ◌∷◌, ◌++◌, length}
use Rattle.marshal_core.specs.declared.order.Order.TheVariants.{Little}
use Rattle.marshal_core.specs.Spelling.{IsString, text_spelling}
use Rattle.marshal_core.specs.Types.{Tys}
use Rattle.marshal_core.specs.Values.{a_string, a_uint32, Vals}
use Rattle.match_rules.specs.declared.kind.MessageKind.TheVariants as kind
use Rattle.match_rules.specs.Kinds.{kind_number}
use Rattle.driver.specs.Errors.{error_name, error_text}
use Rattle.message_core.specs.declared.header_field.HeaderField.TheVariants as field
use Rattle.message_core.specs.Headers.{AreWritten, known_field}
use Rattle.driver.specs.Answered.{ReplyTo}
use Rattle.driver.specs.OwnMessages.{Writes, error_message, string_types, string_values}
use Rattle.driver.specs.Layout.{own_bytes}
use Rattle.driver.proofs.Errors.{error_string}
use Rattle.driver.proofs.Sound.{error_fields, error_sound, reply_is}
use Rattle.driver.proofs.Written.{is_written, writes, one_spelled}
use Rattle.driver.proofs.reply.write_error.Goals as goal

pub returns-clause-ok : goal.returns-clause-ok
returns-clause-ok c =
    let error = c.args.error in
    let to : ReplyTo = record { caller = c.caller.result; call = c.call.result } in
    let same : to ≡ c.args.to = reply_is c.args.to c.caller.result c.call.result c.caller.ensures c.call.ensures.value in
    let types : Tys = string_types (error_text error ∷ []) in
    let values : Vals = string_values (error_text error ∷ []) in
    let array : List ℕ = c.deref.result.now in
    let body : List ℕ = c.as_slice.result.now in
    let first : AreWritten Little (known_field field.ErrorName (a_string (error_name error)) ∷ []) c.put_string.new.fields.items =
    subst (λ (t : List ℕ). AreWritten Little (known_field field.ErrorName (a_string t) ∷ []) c.put_string.new.fields.items) c.error_name.ensures (c.put_string.ensures.put [] c.in_ok-fields.ensures.items) in
    let second = c.put_reply_serial.ensures.put (known_field field.ErrorName (a_string (error_name error)) ∷ []) first in
    let written : AreWritten Little (error_fields to error types) array =
    subst (AreWritten Little (error_fields to error types)) (sym c.deref.ensures.value)
    (c.put_end.ensures.put types (known_field field.ErrorName (a_string (error_name error)) ∷ known_field field.ReplySerial (a_uint32 to.call) ∷ []) refl refl second) in
    let is : IsString (error_text error) = error_string error c.error_text.result.now c.error_text.ensures c.put_string-2.ensures.utf8 in
    let spelled : body ≡ text_spelling Little 0 (error_text error) =
    c.as_slice.ensures.value ∙ c.put_string-2.ensures.put ∙ ap (λ (l : List ℕ). l ++ text_spelling Little (length l) c.error_text.result.now) c.new-text.ensures ∙ ap (text_spelling Little 0) c.error_text.ensures in
    subst (λ (t : ReplyTo). OnOk c.append_message.result (Writes c.args.out.now.items c.append_message.new.out.items (error_message c.args.serial t error))) same
    (writes c.append_message.result c.args.out.now.items c.append_message.new.out.items body (own_bytes (kind_number kind.Error) c.args.serial array body) (error_message c.args.serial to error) c.append_message.ensures.ok c.append_message.ensures.fits
    (λ fits. is_written kind.Error c.args.serial (error_fields to error types) types values array body (own_bytes (kind_number kind.Error) c.args.serial array body)
    (error_sound c.args.serial to error types (c.requires.serial, c.ranges.serial.fits) c.call.ensures.positive c.put_end.ensures.named) (subst (λ (x : List ℕ). length x ≤ 512) (sym c.deref.ensures.value) c.put_end.ensures.fits) fits written (one_spelled (error_text error) body is spelled) refl))
