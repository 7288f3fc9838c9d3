use Rattle.router_core.specs.declared.event.Event.TheVariants.{Mail}
use Rattle.router.proofs.Bringing.{brings}
use Rattle.router.proofs.engine.Engine.mail.Goals as goal

pub returns-clause-brings : goal.returns-clause-brings
returns-clause-brings g c =
    brings g.V.BusView.told g.V.BusView.registry_of g.G.Gate.passes g.V.BusView.alone (Mail c.args.slot c.args.envelope.now) c.self.inside.peers c.mail.new.self c.take_actions.new.self c.take_actions.result.items c.args.self.now c.self.view_is c.self.invariant
    c.in_ok-mail.ensures.comes c.take_actions.ensures.standing c.take_actions.ensures.actions c.take_actions.ensures.world
