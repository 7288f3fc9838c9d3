use Rattle.std.proofs.Common.{ℕ, false, List, [], subst}
use Rattle.router_core.specs.declared.event.Event.TheVariants.{Turn}
use Rattle.router_core.specs.Events.{turning}
use Rattle.router_core.specs.Scripts.{Comes}
use Rattle.router.proofs.Bringing.{brings}
use Rattle.router.proofs.engine.Engine.turn.Goals as goal

pub returns-clause-brings : goal.returns-clause-brings
returns-clause-brings g c =
    let before = c.self.inside.peers in
    let after = c.turn.new.self in
    let comes = subst (λ (keys : List ℕ). Comes g.V.BusView.told g.V.BusView.registry_of g.G.Gate.passes g.V.BusView.alone (turning [] keys false before.standing) before.work.world after.standing after.work.world) c.deref.ensures.value c.in_ok-turn.ensures.comes in
    brings g.V.BusView.told g.V.BusView.registry_of g.G.Gate.passes g.V.BusView.alone (Turn c.args.keys.now) c.self.inside.peers c.turn.new.self c.take_actions.new.self c.take_actions.result.items c.args.self.now c.self.view_is c.self.invariant
    comes c.take_actions.ensures.standing c.take_actions.ensures.actions c.take_actions.ensures.world
