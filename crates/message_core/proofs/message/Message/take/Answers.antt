use Rattle.std.proofs.Common.{sym, subst}
use Rattle.std.proofs.lemmas.Result.{err_from_is_err_and}
use Rattle.message_core.specs.Refusals.{IsNoMessage}
use Rattle.message_core.proofs.NoMessages.{refused_none}
use Rattle.message_core.proofs.Announced.{announced_facts}
use Rattle.message_core.proofs.message.Message.take.Goals as goal

pub places_of-requires-clause-small : goal.places_of-requires-clause-small
places_of-requires-clause-small c =
    let a = announced_facts 134217728 c.args.buffer.now.items _ c.requires.whole in
    rw c.deref.ensures.value a.within

pub places_of-requires-clause-long : goal.places_of-requires-clause-long
places_of-requires-clause-long c =
    let a = announced_facts 134217728 c.args.buffer.now.items _ c.requires.whole in
    rw c.deref.ensures.value (sym a.length)

pub returns-in_err-fields-clause-none : goal.returns-in_err-fields-clause-none
returns-in_err-fields-clause-none c =
    let p = err_from_is_err_and c.from_residual.result c.from_residual.ensures.1 in
    rw (p.1, p.2) (λ other. subst IsNoMessage c.deref.ensures.value (refused_none c.deref.result.now c.in_err-fields.field-0.0 (c.in_err-fields.ensures.fault other)))
