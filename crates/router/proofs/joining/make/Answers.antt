use Rattle.std.proofs.Common.{subst}
use Rattle.message_core.specs.Said.{said}
use Rattle.seq_bus_core.specs.declared.change.Change.{Change}
use Rattle.seq_bus_core.specs.declared.error_kind.ErrorKind.{ErrorKind}
use Rattle.router_core.specs.Answers.{Says, Refuses, error_for, refusal_of}
use Rattle.router_core.specs.Scripts.{Changes, Comes}
use Rattle.router_core.specs.Serving.{erring}
use Rattle.router.proofs.Answering.{stays}
use Rattle.router.proofs.Rules.{hears_of_none}
use Rattle.router.proofs.joining.make.Goals as goal

pub answer-requires-clause-alone : goal.answer-requires-clause-alone
answer-requires-clause-alone g c =
    let alone = g.V.BusView.alone in
    let o = c.in-Ok.outcome in
    let w = c.args.context.now.world in
    let n = c.change.new.self.world in
    let changes = subst (λ (change : Change). Changes alone change w (Says o) n) c.change_of.ensures c.in-Ok.ensures.changes in
    hears_of_none alone c.args.joint.now o w.view n.view changes.hears

pub returns-in-Ok-clause-comes : goal.returns-in-Ok-clause-comes
returns-in-Ok-clause-comes g c =
    let o = c.in-Ok.outcome in
    let w = c.args.context.now.world in
    let n = c.change.new.self.world in
    let changes = subst (λ (change : Change). Changes g.V.BusView.alone change w (Says o) n) c.change_of.ensures c.in-Ok.ensures.changes in
    (Says o, n, changes, c.answer.ensures.comes)

pub returns-in-Err-clause-comes : goal.returns-in-Err-clause-comes
returns-in-Err-clause-comes g c =
    let told = g.V.BusView.told in
    let registry_of = g.V.BusView.registry_of in
    let passes = g.G.Gate.passes in
    let alone = g.V.BusView.alone in
    let m = said c.args.joint.now.message in
    let caller = c.args.joint.now.caller in
    let why = refusal_of c.in-Err.cause in
    let w = c.args.context.now.world in
    let n = c.change.new.self.world in
    let v = c.err_with.new.self.world in
    let changes = subst (λ (change : Change). Changes alone change w (Refuses why) n) c.change_of.ensures c.in-Err.ensures.changes in
    let errs = subst (λ (e : ErrorKind). Comes told registry_of passes alone (erring m caller e) n tt v) c.error_for.ensures c.err_with.ensures.comes in
    (Refuses why, n, changes, stays told registry_of passes alone (erring m caller (error_for why)) n v errs)
