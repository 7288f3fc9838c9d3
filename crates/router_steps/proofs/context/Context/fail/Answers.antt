use Rattle.std.proofs.Common.{sym, ◌∙◌}
use Rattle.router_core.specs.Scripts.{Wanting}
use Rattle.router_core.specs.Serving.{call_of_ticket, failing_if, nothing, ticket_wants_reply}
use Rattle.router_steps.proofs.Choices.{chosen}
use Rattle.router_steps.proofs.context.Context.fail.Goals as goal

pub returns-then-wants_reply-clause-comes : goal.returns-then-wants_reply-clause-comes
returns-then-wants_reply-clause-comes g c =
    let t = c.args.ticket.now in
    chosen g.V.BusView.told g.V.BusView.registry_of g.G.Gate.passes g.V.BusView.alone (Wanting (λ granted. failing_if c.args.error t.caller (call_of_ticket t) granted)) nothing
    c.args.self.now.world c.tell_failed.new.self.world tt (ticket_wants_reply t) (sym c.wants_reply.ensures ∙ c.if-wants_reply.true) c.tell_failed.ensures.comes
