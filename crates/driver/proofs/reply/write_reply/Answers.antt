use Rattle.std.proofs.Common.{refl, sym, ap, ◌∙◌, subst}
use Rattle.marshal_core.specs.Signatures.{codes}
use Rattle.marshal_core.specs.Types.{no_types}
use Rattle.marshal_core.specs.Values.{no_values}
use Rattle.driver.specs.OwnMessages.{IsReplyBody}
use Rattle.driver.specs.declared.reply.ReplyBody.{ReplyBody}
use Rattle.driver.specs.declared.reply.SpelledBody.{SpelledBody}
use Rattle.driver.proofs.Bodies.{nothing}
use Rattle.driver.proofs.reply.write_reply.Goals as goal

pub returns-in-Empty-clause-ok : goal.returns-in-Empty-clause-ok
returns-in-Empty-clause-ok c = λ types values is.
    let h = subst (λ (b : ReplyBody SpelledBody). IsReplyBody b types values) c.in-Empty.is is in
    rw (h.0, h.1) (c.put_reply.ensures.ok no_types no_values refl nothing)

pub returns-in-Number-clause-ok : goal.returns-in-Number-clause-ok
returns-in-Number-clause-ok c = λ types values is.
    let h = subst (λ (b : ReplyBody SpelledBody). IsReplyBody b types values) c.in-Number.is is in
    rw (h.0, h.1) c.put_number.ensures.ok

pub returns-in-UniqueName-clause-ok : goal.returns-in-UniqueName-clause-ok
returns-in-UniqueName-clause-ok c = λ types values is.
    let h = subst (λ (b : ReplyBody SpelledBody). IsReplyBody b types values) c.in-UniqueName.is is in
    rw (h.0, h.1) c.put_unique_name.ensures.ok

pub returns-in-Answer-clause-ok : goal.returns-in-Answer-clause-ok
returns-in-Answer-clause-ok c = λ types values is.
    let h = subst (λ (b : ReplyBody SpelledBody). IsReplyBody b types values) c.in-Answer.is is in
    c.put_reply-in-Answer.ensures.ok types values (c.signature_for.ensures.types ∙ ap codes (sym h.0)) h.1
