use Rattle.std.proofs.Common.{sym, ◌∙◌}
use Rattle.message_core.specs.Said.{said}
use Rattle.outbox_core.specs.Contents.{own_of}
use Rattle.router_steps.proofs.Hellos.{refused_with}
use Rattle.router_steps.proofs.context.Context.refuse_with.Goals as goal

pub returns-then-expects_reply-clause-comes : goal.returns-then-expects_reply-clause-comes
returns-then-expects_reply-clause-comes g c =
    refused_with g.V.BusView.told g.V.BusView.registry_of g.G.Gate.passes g.V.BusView.alone c.args.key (said c.args.hello.now) c.args.error (own_of c.refusal.result) c.args.peer.now c.refuse.new.peer c.args.self.now.world c.refuse.new.self.world (sym c.expects_reply.ensures ∙ c.if-expects_reply.true) c.refusal.ensures c.refuse.ensures.comes
