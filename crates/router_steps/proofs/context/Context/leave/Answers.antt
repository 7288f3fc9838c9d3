use Rattle.std.proofs.Common.{refl, ap}
use Rattle.router_core.specs.Answers.{Refuses, refusal_of}
use Rattle.router_core.specs.Standing.{Standing}
use Rattle.router_steps.proofs.context.Context.leave.Goals as goal

pub returns-in-Err-clause-comes : goal.returns-in-Err-clause-comes
returns-in-Err-clause-comes g c s =
    (Refuses (refusal_of c.in-Err.field-0), c.change.new.self.world, c.in-Err.ensures.changes, (ap (λ leaves. let t : Standing = record s { due_leaves = leaves } in t) c.push_reserved.ensures.items, refl))
