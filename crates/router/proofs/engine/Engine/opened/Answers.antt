use Rattle.std.proofs.Common.{ℕ, ap, sym, subst}
use Rattle.router_core.specs.declared.event.Event.TheVariants.{Opened}
use Rattle.router_core.specs.Acts.{State, Brings}
use Rattle.router_core.specs.Standing.{Standing, IsFree}
use Rattle.router.specs.Tables.{Keys}
use Rattle.router.proofs.Bringing.{brings, state_of}
use Rattle.router.proofs.engine.Engine.opened.Goals as goal

pub returns-clause-brings : goal.returns-clause-brings
returns-clause-brings g c =
    let told = g.V.BusView.told in
    let registry_of = g.V.BusView.registry_of in
    let passes = g.G.Gate.passes in
    let alone = g.V.BusView.alone in
    let before = c.self.inside.peers in
    let brought =
    brings told registry_of passes alone (Opened before.keys.next c.args.challenge) before c.open.new.self c.take_actions.new.self c.take_actions.result.items c.args.self.now c.self.view_is c.self.invariant
    (c.in_ok-open.ensures.ok, ap (λ k. k.world) c.open.ensures.work) c.take_actions.ensures.standing c.take_actions.ensures.actions c.take_actions.ensures.world
    in
    subst (λ (key : ℕ). Brings told registry_of passes alone c.args.self.now (Opened key c.args.challenge) c.take_actions.result.items (state_of c.take_actions.new.self)) (ap (λ (s : State g.row.G.Denot). s.next_key) c.self.view_is) brought

pub returns-clause-key : goal.returns-clause-key
returns-clause-key g c =
    let opened = c.open.new.self in
    let after = c.take_actions.new.self in
    subst (λ (k : Keys). IsFree after.standing k.next) (sym c.take_actions.ensures.keys)
    (subst (λ (s : Standing). IsFree s opened.keys.next) (sym c.take_actions.ensures.standing) c.in_ok-open.ensures.free)
