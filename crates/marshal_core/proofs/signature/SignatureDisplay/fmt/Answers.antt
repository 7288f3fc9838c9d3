use Rattle.std.proofs.Common.{refl}
use Rattle.std.proofs.Output.{has_written_append, has_written_of_eq}
use Rattle.marshal_core.proofs.Codes.{codes_more}
use Rattle.marshal_core.proofs.signature.SignatureDisplay.fmt.Goals as goal

pub loop-one-preserved : goal.loop-one-preserved
loop-one-preserved g c = λ plain.
    let so_far = c.loop-one.invariant plain in
    has_written_of_eq _ _ _ _ _
    (codes_more c.complete_types-one-items.result.now c.loop-one.one-index _ c.loop-one-test.true c.one-item.is)
    (has_written_append _ _ _ _ _ _ so_far (c.in_ok-write.ensures.writes so_far.plain refl))
