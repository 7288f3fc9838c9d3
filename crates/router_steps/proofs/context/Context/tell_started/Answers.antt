use Rattle.std.proofs.Common.{Some, true, subst}
use Rattle.driver.specs.Answered.{ReplyTo}
use Rattle.outbox_core.specs.Contents.{Replies}
use Rattle.router_core.specs.Scripts.{World, Comes}
use Rattle.router_core.specs.Serving.{start_reply, telling}
use Rattle.router_steps.proofs.context.Context.tell_started.Goals as goal

pub returns-clause-comes : goal.returns-clause-comes
returns-clause-comes g c =
    let told = g.V.BusView.told in
    let registry_of = g.V.BusView.registry_of in
    let passes = g.G.Gate.passes in
    let alone = g.V.BusView.alone in
    let ready = c.reserve_verdicts.new.self.world in
    let v = c.tell.new.self.world in
    let replied = subst (λ (to : ReplyTo). Comes told registry_of passes alone (telling c.args.caller (Replies to start_reply)) ready tt v) c.new-to.ensures c.tell.ensures.comes in
    let to : ReplyTo = record { caller = Some c.args.caller.number; call = c.args.serial } in
    (true, subst (λ (w : World g.row.V-Note.Denot g.row.G.Denot). Comes told registry_of passes alone (telling c.args.caller (Replies to start_reply)) w tt v) c.reserve_verdicts.ensures.world replied)
