use Rattle.std.proofs.Common.{◌∙◌, length, subst, sym}
use Rattle.marshal_core.proofs.Results.{eqb-yes}
use Rattle.message_core.specs.Headers.{AreWritten}
use Rattle.message_core.proofs.Putting.{no_signature}
use Rattle.message_core.proofs.writing.put_signature.Goals as goal

pub returns-then-is_empty-clause-put : goal.returns-then-is_empty-clause-put
returns-then-is_empty-clause-put c = λ order types sent e valid h.
    no_signature order types sent c.args.signature.now c.args.output.now.items (eqb-yes (length c.args.signature.now) 0 (sym c.is_empty.ensures ∙ c.if-is_empty.true)) e valid h

pub returns-clause-put : goal.returns-clause-put
returns-clause-put c = λ order types sent e valid h.
    c.put_signature.ensures.put order types sent e valid (subst (AreWritten order sent) (sym c.reserve.ensures.items) h)
