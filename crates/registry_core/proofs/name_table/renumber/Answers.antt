use Rattle.std.proofs.Common.{ap, arith}
use Rattle.registry_core.specs.declared.name_table.NameEntry.{NameEntry}
use Rattle.registry_core.proofs.CopiedTable.{renumbered}
use Rattle.registry_core.proofs.name_table.renumber.Goals as goal

pub loop-place-preserved : goal.loop-place-preserved
loop-place-preserved c =
    let id_is = ap (λ (e : NameEntry). e.id) c.deref.ensures in
    renumbered c.loop-place.entries c.args.others.now c.loop-place.place _ c.index-others-place.result (omega (arith, c.loop-place-test.true, c.loop-place.auto.entries, c.requires))
    (omega (arith, c.loop-place.auto.entries, c.requires)) c.index-others-place.is id_is c.loop-place.invariant
