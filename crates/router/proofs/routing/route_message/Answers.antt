use Rattle.std.proofs.Common.{subst}
use Rattle.message_core.specs.Said.{said}
use Rattle.router_core.specs.Scripts.{World, Comes}
use Rattle.router_core.specs.Serving.{serving}
use Rattle.router_steps.specs.Hearing.{heard_verdict}
use Rattle.router.proofs.Verdicts.{serves}
use Rattle.router.proofs.routing.route_message.Goals as goal

pub returns-clause-comes : goal.returns-clause-comes
returns-clause-comes g c =
    let taken = c.take_verdict-verdict in
    let asked = c.ask_route-heard in
    let served = serves g.V.BusView.told g.V.BusView.registry_of g.G.Gate.passes g.V.BusView.alone (said c.args.message.now) c.args.sender c.routed.result taken.new.self.world asked.new.context.world c.routed.new.context.world
    (heard_verdict asked.result asked.new.verdict) c.requires.known asked.ensures.routes c.routed.ensures.comes in
    subst (λ (w : World g.row.V-Note.Denot g.row.G.Denot). Comes g.V.BusView.told g.V.BusView.registry_of g.G.Gate.passes g.V.BusView.alone (serving (said c.args.message.now) c.args.sender) w c.routed.result c.routed.new.context.world) taken.ensures.world served
