use Rattle.std.proofs.Common.{List, subst}
use Rattle.router_core.specs.declared.action.Action.{Action}
use Rattle.router_laws.specs.Outputs.{Adds, Output, bytes_by_all}
use Rattle.router_laws.proofs.Courses.{turn_of}
use Rattle.router_laws.proofs.session.Session.serve.Goals as goal

pub returns-clause-turn : goal.returns-clause-turn
returns-clause-turn g c =
    let actions : List (Action (Unit {0})) = c.in_ok-actions.actions.items in
    let last : Output = c.take_all.new.self in
    let taken = subst (λ (done : List (Action (Unit {0}))). Adds c.meet.new.self (λ opening. bytes_by_all opening c.meet.new.self.keys done) last) c.deref.ensures.value c.in_ok-take_all.ensures in
    turn_of g.G.Gate.passes c.args.self.now.engine c.event.new.self c.args.self.now.outlets last c.args.event actions c.in_ok-actions.ensures.brings c.in_ok-admit.ensures.happens c.in_ok-actions.ensures.served.key
    (subst (λ (out : Output). Adds out (λ opening. bytes_by_all opening out.keys actions) last) c.in_ok-meet.ensures taken)
