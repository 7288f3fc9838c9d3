use Rattle.std.proofs.Common.{◌≡◌, ℕ, List, Option, ap, subst, ◌∙◌}
use Rattle.message_core.specs.declared.field_place.FieldPlace.{FieldPlace}
use Rattle.message_core.specs.Kinds.{code_of}
use Rattle.message_core.specs.HeaderFields.{text_field}
use Rattle.message_core.specs.Said.{said}
use Rattle.message_core.specs.Whole.{place_of, text_part, Lends}
use Rattle.message_core.proofs.Lending.{text_room, text_utf8, text_told}
use Rattle.message_core.proofs.message.Message.text.Goals as goal

pub text_at-requires-clause-room : goal.text_at-requires-clause-room
text_at-requires-clause-room c =
    rw (c.place_of.ensures, c.code.ensures, c.deref.ensures.value, c.deref-2.ensures.value) (text_room c.self.inside.bytes.items c.self.inside.fields.items c.args.field c.self.invariant c.requires)

pub text_at-requires-clause-utf8 : goal.text_at-requires-clause-utf8
text_at-requires-clause-utf8 c =
    rw (c.place_of.ensures, c.code.ensures, c.deref.ensures.value, c.deref-2.ensures.value) (text_utf8 c.self.inside.bytes.items c.self.inside.fields.items c.args.field c.self.invariant c.requires)

pub returns : goal.returns
returns c =
    let k = c.args.field in
    let place : c.place_of.result ≡ place_of (code_of k) c.self.inside.fields.items =
    c.place_of.ensures ∙ ap (λ (n : ℕ). place_of n c.deref.result.now) c.code.ensures ∙ ap (place_of (code_of k)) c.deref.ensures.value in
    let told : text_part c.place_of.result c.deref-2.result.now ≡ text_field k (said c.args.self.now).fields =
    ap (λ (p : Option FieldPlace). text_part p c.deref-2.result.now) place ∙ ap (text_part (place_of (code_of k) c.self.inside.fields.items)) c.deref-2.ensures.value
    ∙ text_told c.self.inside.bytes.items c.self.inside.fields.items k c.self.invariant c.requires ∙ ap (λ (b : List ℕ). text_field k (said b).fields) c.self.view_is in
    subst (Lends c.text_at.result) told c.text_at.ensures
