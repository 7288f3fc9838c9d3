use Rattle.std.proofs.Common.{List, ℕ, subst}
use Rattle.names.specs.Texts.{Text}
use Rattle.message_core.specs.Said.{said}
use Rattle.seq_bus_core.specs.declared.change.CallHead.{CallHead}
use Rattle.seq_bus_core.specs.declared.change.Change.TheVariants.{Hold}
use Rattle.seq_bus_core.specs.declared.error_kind.ErrorKind.{ErrorKind}
use Rattle.router_core.specs.Answers.{Says, Refuses, refusal_of}
use Rattle.router_core.specs.Scripts.{Changes, Comes}
use Rattle.router_core.specs.Serving.{staying_after, erring, waiting_call}
use Rattle.router.proofs.activation.wait.Goals as goal

pub returns-in-Ok-clause-comes : goal.returns-in-Ok-clause-comes
returns-in-Ok-clause-comes g c =
    let alone = g.V.BusView.alone in
    let m = said c.args.message.now in
    let o = c.in-Ok.outcome in
    let w = c.args.context.now.world in
    let n = c.change.new.self.world in
    let named = subst (λ (name : Text). Changes alone (Hold c.args.sender.number name c.waiting_call.result c.args.parcel.held) w (Says o) n) c.deref.ensures c.in-Ok.ensures.changes in
    let called = subst (λ (call : CallHead). Changes alone (Hold c.args.sender.number c.args.parcel.name.value call c.args.parcel.held) w (Says o) n) c.waiting_call.ensures named in
    let changes = subst (λ (bytes : List ℕ). Changes alone (Hold c.args.sender.number c.args.parcel.name.value (waiting_call m) bytes) w (Says o) n) c.requires.held called in
    (Says o, n, changes, c.held.ensures.comes)

pub returns-in-Err-clause-comes : goal.returns-in-Err-clause-comes
returns-in-Err-clause-comes g c =
    let told = g.V.BusView.told in
    let registry_of = g.V.BusView.registry_of in
    let passes = g.G.Gate.passes in
    let alone = g.V.BusView.alone in
    let m = said c.args.message.now in
    let why = refusal_of c.in-Err.cause in
    let w = c.args.context.now.world in
    let n = c.change.new.self.world in
    let v = c.refuse.new.context.world in
    let named = subst (λ (name : Text). Changes alone (Hold c.args.sender.number name c.waiting_call.result c.args.parcel.held) w (Refuses why) n) c.deref.ensures c.in-Err.ensures.changes in
    let called = subst (λ (call : CallHead). Changes alone (Hold c.args.sender.number c.args.parcel.name.value call c.args.parcel.held) w (Refuses why) n) c.waiting_call.ensures named in
    let changes = subst (λ (bytes : List ℕ). Changes alone (Hold c.args.sender.number c.args.parcel.name.value (waiting_call m) bytes) w (Refuses why) n) c.requires.held called in
    let errs = subst (λ (e : ErrorKind). Comes told registry_of passes alone (staying_after (erring m c.args.sender e)) n c.refuse.result v) c.error_for.ensures c.refuse.ensures.comes in
    (Refuses why, n, changes, errs)
