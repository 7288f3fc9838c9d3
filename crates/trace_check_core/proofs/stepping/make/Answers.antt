use Rattle.std.proofs.Common.{◌∙◌, ap}
use Rattle.registry.specs.PreparedChanges.{PreparedChange}
use Rattle.seq_bus_core.specs.BusState.{BusState}
use Rattle.seq_bus_core.specs.Steps.{Stepped, step}
use Rattle.seq_bus_core.proofs.ChangeLaws.{steps_see_no_more}
use Rattle.trace_check_core.proofs.stepping.make.Goals as goal

pub returns-clause-made : goal.returns-clause-made
returns-clause-made c =
    let s : BusState = c.args.registry.now in
    c.absorb.ensures ∙ ap (λ (q : PreparedChange). (step s q.seat q.change).0) c.in_ok-prepared.ensures ∙ ap (λ (r : Stepped). r.0) (steps_see_no_more s c.args.seat c.args.change.now)
