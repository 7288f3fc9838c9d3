use Rattle.std.proofs.Common.{◌≡◌, ℕ, List, Option, ap, sym, ◌∙◌}
use Rattle.marshal_core.specs.declared.order.Order.{Order}
use Rattle.message_core.specs.declared.field_place.FieldPlace.{FieldPlace}
use Rattle.message_core.specs.declared.header_field.HeaderField.TheVariants as field
use Rattle.message_core.specs.HeaderFields.{number_field}
use Rattle.message_core.specs.Said.{said, order_of}
use Rattle.message_core.specs.Whole.{place_of, number_part}
use Rattle.message_core.proofs.Lending.{serial_room, serial_told}
use Rattle.message_core.proofs.message.Message.reply_serial.Goals as goal

pub number_at-requires : goal.number_at-requires
number_at-requires c =
    rw (c.place_of.ensures, c.code.ensures, c.deref.ensures.value, c.deref-2.ensures.value) (serial_room c.self.inside.bytes.items c.self.inside.fields.items c.self.invariant)

pub returns : goal.returns
returns c =
    let place : c.place_of.result ≡ place_of 5 c.self.inside.fields.items =
    c.place_of.ensures ∙ ap (λ (n : ℕ). place_of n c.deref.result.now) c.code.ensures ∙ ap (place_of 5) c.deref.ensures.value in
    let order : c.order.result ≡ order_of c.self.inside.bytes.items = c.order.ensures ∙ ap order_of (sym c.self.view_is) in
    c.number_at.ensures ∙ ap (λ (o : Order). number_part o c.place_of.result c.deref-2.result.now) order ∙ ap (λ (p : Option FieldPlace). number_part (order_of c.self.inside.bytes.items) p c.deref-2.result.now) place
    ∙ ap (number_part (order_of c.self.inside.bytes.items) (place_of 5 c.self.inside.fields.items)) c.deref-2.ensures.value
    ∙ serial_told c.self.inside.bytes.items c.self.inside.fields.items c.self.invariant ∙ ap (λ (b : List ℕ). number_field field.ReplySerial (said b).fields) c.self.view_is
