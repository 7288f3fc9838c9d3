use Rattle.std.proofs.Common.{ℕ, List, ap, ◌∙◌}
use Rattle.marshal_core.specs.Signatures.{codes}
use Rattle.message_core.specs.declared.field_place.FieldPlace.{FieldPlace}
use Rattle.message_core.specs.Said.{said, order_of}
use Rattle.message_core.specs.Whole.{place_of, signature_part}
use Rattle.message_core.proofs.Wholes.{signature_room}
use Rattle.message_core.proofs.Lending.{signature_stands_told}
use Rattle.message_core.proofs.message.Message.signature.Goals as goal

pub signature_text-requires : goal.signature_text-requires
signature_text-requires c =
    rw (c.deref.ensures.value, c.deref-2.ensures.value) (signature_room (order_of c.self.inside.bytes.items) c.self.inside.bytes.items c.self.inside.fields.items (said c.self.inside.bytes.items).fields c.self.invariant.placed)

pub returns : goal.returns
returns c =
    c.signature_text.ensures ∙ ap (λ (ps : List FieldPlace). signature_part (place_of 8 ps) c.deref-2.result.now) c.deref.ensures.value ∙ ap (signature_part (place_of 8 c.self.inside.fields.items)) c.deref-2.ensures.value
    ∙ signature_stands_told c.self.inside.bytes.items c.self.inside.fields.items c.self.invariant ∙ ap (λ (b : List ℕ). codes (said b).types) c.self.view_is
