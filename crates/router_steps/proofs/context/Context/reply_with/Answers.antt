use Rattle.std.proofs.Common.{sym, subst, ◌∙◌}
use Rattle.message_core.specs.Said.{said}
use Rattle.driver.specs.Calls.{expects_reply}
use Rattle.driver.specs.Answered.{ReplyTo}
use Rattle.outbox_core.specs.Contents.{Replies, carried_of}
use Rattle.router_core.specs.Scripts.{Comes}
use Rattle.router_core.specs.Serving.{call_of, nothing, telling}
use Rattle.router_steps.proofs.Choices.{chosen}
use Rattle.router_steps.proofs.context.Context.reply_with.Goals as goal

pub returns-then-expects_reply-clause-comes : goal.returns-then-expects_reply-clause-comes
returns-then-expects_reply-clause-comes g c =
    let told = g.V.BusView.told in
    let registry_of = g.V.BusView.registry_of in
    let passes = g.G.Gate.passes in
    let alone = g.V.BusView.alone in
    let m = said c.args.call.now in
    let told_so = subst (λ (to : ReplyTo). Comes told registry_of passes alone (telling c.args.caller (Replies to (carried_of c.args.body))) c.args.self.now.world tt c.tell.new.self.world) c.call_of-to.ensures c.tell.ensures.comes in
    chosen told registry_of passes alone (let to = call_of m c.args.caller in telling c.args.caller (Replies to (carried_of c.args.body))) nothing c.args.self.now.world c.tell.new.self.world tt (expects_reply m) (sym c.expects_reply.ensures ∙ c.if-expects_reply.true) told_so
