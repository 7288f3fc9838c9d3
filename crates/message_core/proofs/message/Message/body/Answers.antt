use Rattle.std.proofs.Common.{◌≡◌, ℕ, ◌+◌, ◌-◌, ◌%◌, List, length, take, drop, arith, ap, sym, subst, ◌∙◌}
use Rattle.std.proofs.lemmas.List.{take_all, length-drop}
use Rattle.marshal_core.specs.declared.order.Order.{Order}
use Rattle.marshal_core.specs.Spelling.{Spells}
use Rattle.message_core.specs.Announcements.{number}
use Rattle.message_core.specs.Said.{said, order_of}
use Rattle.message_core.specs.Messages.{Message}
use Rattle.message_core.specs.Whole.{body_begin}
use Rattle.message_core.proofs.Lending.{body_told}
use Rattle.message_core.proofs.message.Message.body.Goals as goal

pub returns : goal.returns
returns c =
    let bytes : List ℕ = c.self.inside.bytes.items in
    let len : ℕ = c.number-length.result in
    let n : len ≡ number (order_of bytes) 12 bytes =
    c.number-length.ensures.value ∙ ap (λ (b : List ℕ). number c.order.result 12 b) c.deref.ensures.value ∙ ap (λ (o : Order). number o 12 bytes) (c.order.ensures ∙ ap order_of (sym c.self.view_is)) in
    let begin : 16 + (len + (8 - len % 8) % 8) ≡ body_begin bytes = ap (λ (k : ℕ). 16 + (k + (8 - k % 8) % 8)) n in
    let whole : take (length c.deref-2.result.now - (16 + (len + (8 - len % 8) % 8))) (drop (16 + (len + (8 - len % 8) % 8)) c.deref-2.result.now) ≡ drop (body_begin bytes) bytes =
    take_all (length c.deref-2.result.now - (16 + (len + (8 - len % 8) % 8))) (drop (16 + (len + (8 - len % 8) % 8)) c.deref-2.result.now) (omega (arith, length-drop (16 + (len + (8 - len % 8) % 8)) c.deref-2.result.now))
    ∙ ap (λ (k : ℕ). drop k c.deref-2.result.now) begin ∙ ap (drop (body_begin bytes)) c.deref-2.ensures.value in
    let spelled = body_told bytes c.self.invariant.is_message in
    subst (λ (m : Message). Spells m.order 0 m.types m.body (take (length c.deref-2.result.now - (16 + (len + (8 - len % 8) % 8))) (drop (16 + (len + (8 - len % 8) % 8)) c.deref-2.result.now))) (ap said c.self.view_is)
    (subst (Spells (said bytes).order 0 (said bytes).types (said bytes).body) (sym whole) spelled)
