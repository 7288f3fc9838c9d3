use Rattle.std.proofs.Common.{◌∙◌, ap, length}
use Rattle.settling.proofs.Along.{as_many_along}
use Rattle.settling.proofs.batch.prepare_all.Goals as goal

pub take-requires : goal.take-requires
take-requires c = ap length (c.deref_mut.ensures.value ∙ c.in_ok-prepared.ensures.prepared) ∙ as_many_along c.args.registry.now c.args.seat c.args.changes.now
