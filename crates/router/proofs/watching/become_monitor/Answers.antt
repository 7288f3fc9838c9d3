use Rattle.std.proofs.Common.{List, true, subst}
use Rattle.match_rules.specs.Rules.{Rule}
use Rattle.message_core.specs.Said.{said}
use Rattle.seq_bus_core.specs.declared.change.Change.TheVariants.{BecomeMonitor}
use Rattle.seq_bus_core.specs.declared.error_kind.ErrorKind.{ErrorKind}
use Rattle.router_core.specs.Answers.{Says, Refuses, refusal_of}
use Rattle.router_core.specs.Scripts.{Changes, Comes}
use Rattle.router_core.specs.Serving.{staying_after, erring}
use Rattle.router.proofs.watching.become_monitor.Goals as goal

pub returns-in-Ok-change-clause-comes : goal.returns-in-Ok-change-clause-comes
returns-in-Ok-change-clause-comes g c =
    let alone = g.V.BusView.alone in
    let o = c.in-Ok-change.outcome in
    let w = c.args.context.now.world in
    let n = c.change.new.self.world in
    let changes = subst (λ (rules : List Rule). Changes alone (BecomeMonitor c.args.caller.number rules) w (Says o) n) c.in-Ok.ensures c.in-Ok-change.ensures.changes in
    (true, (Says o, n, changes, c.watched.ensures.comes))

pub returns-in-Err-clause-comes : goal.returns-in-Err-clause-comes
returns-in-Err-clause-comes g c =
    let told = g.V.BusView.told in
    let registry_of = g.V.BusView.registry_of in
    let passes = g.G.Gate.passes in
    let alone = g.V.BusView.alone in
    let m = said c.args.call.now in
    let why = refusal_of c.in-Err.cause in
    let w = c.args.context.now.world in
    let n = c.change.new.self.world in
    let v = c.refuse-in-Err.new.context.world in
    let changes = subst (λ (rules : List Rule). Changes alone (BecomeMonitor c.args.caller.number rules) w (Refuses why) n) c.in-Ok.ensures c.in-Err.ensures.changes in
    let errs = subst (λ (e : ErrorKind). Comes told registry_of passes alone (staying_after (erring m c.args.caller e)) n c.refuse-in-Err.result v) c.error_for.ensures c.refuse-in-Err.ensures.comes in
    (true, (Refuses why, n, changes, errs))
