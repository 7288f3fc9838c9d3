use Rattle.std.proofs.Common.{refl, sym, ap, ◌∙◌}
use Rattle.std.proofs.Output.{has_written_append, has_written_of_eq}
use Rattle.marshal_core.specs.Types.{types_of, struct}
use Rattle.marshal_core.specs.Signatures.{code}
use Rattle.marshal_core.proofs.Views.{ty_struct}
use Rattle.marshal_core.proofs.Codes.{codes_more, codes_of_struct}
use Rattle.marshal_core.proofs.data_type.DataTypeDisplay.+fmt.Goals as goal

pub loop-field-preserved : goal.loop-field-preserved
loop-field-preserved g t c = λ plain.
    let so_far = c.loop-field.invariant plain in
    has_written_of_eq _ _ _ _ _
    (codes_more c.deref-field-items.result.now c.loop-field.field-index _ c.loop-field-test.true c.field-item.is)
    (has_written_append _ _ _ _ _ _ so_far (c.in_ok-write-in-Struct-2.ensures.writes so_far.plain refl))

pub returns-after-loop-field-clause-writes : goal.returns-after-loop-field-clause-writes
returns-after-loop-field-clause-writes g t c = λ plain ok.
    let begun = c.in_ok-write-in-Struct.ensures.writes plain refl in
    let so_far = c.loop-field.invariant begun.plain in
    has_written_of_eq _ _ _ _ _
    (codes_of_struct c.deref-field-items.result.now c.loop-field.field-index c.loop-field-test.false
    ∙ ap (λ xs. code (struct (types_of xs))) c.deref-field-items.ensures.value ∙ sym (ap code (ty_struct c.args.self.now c.in-Struct.fields c.in-Struct.is)))
    (has_written_append _ _ _ _ _ _ begun (has_written_append _ _ _ _ _ _ so_far (c.write-in-Struct-2.ensures.writes so_far.plain ok)))
