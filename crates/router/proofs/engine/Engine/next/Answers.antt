use Rattle.router_core.specs.declared.event.Event.TheVariants.{Next}
use Rattle.router.proofs.Bringing.{brings}
use Rattle.router.proofs.engine.Engine.next.Goals as goal

pub returns-clause-brings : goal.returns-clause-brings
returns-clause-brings g c =
    brings g.V.BusView.told g.V.BusView.registry_of g.G.Gate.passes g.V.BusView.alone (Next c.args.key) c.self.inside.peers c.next.new.self c.take_actions.new.self c.take_actions.result.items c.args.self.now c.self.view_is c.self.invariant
    c.in_ok-next.ensures.comes c.take_actions.ensures.standing c.take_actions.ensures.actions c.take_actions.ensures.world
