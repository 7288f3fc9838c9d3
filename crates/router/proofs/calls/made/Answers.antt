use Rattle.std.proofs.Common.{Result, sym, subst}
use Rattle.message_core.specs.Said.{said}
use Rattle.seq_bus_core.specs.declared.error_kind.ErrorKind.{ErrorKind}
use Rattle.seq_bus_core.specs.declared.outcome.Outcome.{Outcome}
use Rattle.bus_view.specs.declared.refusal.Cause.{Cause}
use Rattle.router_core.specs.Scripts.{Comes}
use Rattle.router_core.specs.Serving.{staying_after, erring, after_change}
use Rattle.router_steps.specs.Hearing.{heard_change}
use Rattle.router.proofs.calls.made.Goals as goal

pub returns-in-Err-clause-comes : goal.returns-in-Err-clause-comes
returns-in-Err-clause-comes g c =
    let told = g.V.BusView.told in
    let registry_of = g.V.BusView.registry_of in
    let passes = g.G.Gate.passes in
    let alone = g.V.BusView.alone in
    let m = said c.args.call.now in
    let errs = subst (λ (e : ErrorKind). Comes told registry_of passes alone (staying_after (erring m c.args.caller e)) c.args.context.now.world c.refuse.result c.refuse.new.context.world) c.error_for.ensures c.refuse.ensures.comes in
    subst (λ (r : Result Outcome Cause). Comes told registry_of passes alone (after_change m c.args.caller (heard_change r)) c.args.context.now.world c.refuse.result c.refuse.new.context.world) (sym c.in-Err.is) errs
