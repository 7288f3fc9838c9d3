use Rattle.std.proofs.Common.{◌≡◌, ℕ, List, [], length, Ok, sym, ap, subst, ◌∙◌, refl}
use Rattle.std.proofs.lemmas.List.{append-nil}
use Rattle.marshal_core.specs.declared.order.Order.{Order}
use Rattle.marshal_core.specs.Types.{Tys, types_of}
use Rattle.marshal_core.specs.Values.{Vals, values_of}
use Rattle.marshal_core.specs.Signatures.{signature_of, codes}
use Rattle.marshal_core.specs.Spelling.{Spells}
use Rattle.marshal_core.specs.Reading.{decoded}
use Rattle.marshal_core.proofs.TypesAgain.{signature_again}
use Rattle.message_core.specs.Said.{said}
use Rattle.message_core.proofs.Arguments.{only_memory, types_read, values_read}
use Rattle.message_core.proofs.message.Message.arguments.Goals as goal

-- the body under the signature and the order that were read
there : (order read : Order) (types ts : Tys) (vs : Vals) (text body : List ℕ) → read ≡ order → text ≡ codes types → signature_of text ≡ Ok ts → Spells order 0 types vs body → Spells read 0 ts vs body
there order read types ts vs text body o e s h =
    subst (λ (x : Order). Spells x 0 ts vs body) (sym o) (subst (λ (x : Tys). Spells order 0 x vs body) (sym (types_read text types ts e h.0 s)) h)

pub returns-in-Err-clause-memory : goal.returns-in-Err-clause-memory
returns-in-Err-clause-memory c =
    let types : Tys = (said c.args.self.now).types in
    only_memory (signature_of c.signature.result.now) types c.in-Err.fault (ap signature_of c.signature.ensures ∙ signature_again types c.body-body.ensures.0) c.in-Err.ensures

pub returns-in-Ok-decode-clause-values : goal.returns-in-Ok-decode-clause-values
returns-in-Ok-decode-clause-values c =
    let m = said c.args.self.now in
    let body : List ℕ = c.body-body.result.now in
    let spelled = there m.order c.order.result m.types (types_of c.in-Ok.signature.types.items) m.body c.signature.result.now body c.order.ensures c.signature.ensures c.in-Ok.ensures c.body-body.ensures in
    values_read m.body (values_of c.in-Ok-decode.values.items) (length body) c.in-Ok-decode.field-0-1 (c.in-Ok-decode.ensures.only m.body body [] (sym (append-nil body)) spelled)

pub returns-clause-memory : goal.returns-clause-memory
returns-clause-memory c =
    let m = said c.args.self.now in
    let body : List ℕ = c.body-body.result.now in
    let spelled = there m.order c.order.result m.types (types_of c.in-Ok.signature.types.items) m.body c.signature.result.now body c.order.ensures c.signature.ensures c.in-Ok.ensures c.body-body.ensures in
    only_memory (decoded m.body (length body)) (m.body, length body) c.in-Err-decode.fault refl (c.in-Err-decode.ensures.only m.body body [] (sym (append-nil body)) spelled)
