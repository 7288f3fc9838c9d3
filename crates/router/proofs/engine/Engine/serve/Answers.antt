use Rattle.std.proofs.Common.{sym, subst}
use Rattle.router_core.specs.declared.event.Event.{Event}
use Rattle.router_core.specs.declared.event.Event.TheVariants.{Child}
use Rattle.router_core.specs.declared.start_end.StartEnd.{StartEnd}
use Rattle.router_core.specs.Acts.{Brings}
use Rattle.router_core.specs.Events.{ending_child}
use Rattle.router_core.specs.Scripts.{Comes}
use Rattle.router.proofs.Bringing.{brings, state_of}
use Rattle.router.proofs.engine.Engine.serve.Goals as goal

pub returns-in_ok-end_start-in-Child-clause-brings : goal.returns-in_ok-end_start-in-Child-clause-brings
returns-in_ok-end_start-in-Child-clause-brings g c =
    let told = g.V.BusView.told in
    let registry_of = g.V.BusView.registry_of in
    let passes = g.G.Gate.passes in
    let alone = g.V.BusView.alone in
    let before = c.self.inside.peers in
    let after = c.end_start.new.self in
    let comes = subst (λ (e : StartEnd). Comes told registry_of passes alone (ending_child before.standing e) before.work.world after.standing after.work.world) c.deref.ensures c.in_ok-end_start-in-Child.ensures.comes in
    let brought = brings told registry_of passes alone (Child c.in-Child.ended) before after c.take_actions.new.self c.take_actions.result.items c.args.self.now c.self.view_is c.self.invariant
    comes c.take_actions.ensures.standing c.take_actions.ensures.actions c.take_actions.ensures.world in
    subst (λ (event : Event g.row.V-Note.Denot). Brings told registry_of passes alone c.args.self.now event c.take_actions.result.items (state_of c.take_actions.new.self)) (sym c.in-Child.is) brought
