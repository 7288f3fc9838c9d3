use Rattle.std.proofs.Common.{Option, ℕ, Some, refl, sym, subst}
use Rattle.router_core.specs.Scripts.{Comes}
use Rattle.router_core.specs.Serving.{running}
use Rattle.router_steps.proofs.context.Context.run.Goals as goal

pub returns-in-Some-clause-comes : goal.returns-in-Some-clause-comes
returns-in-Some-clause-comes g c =
    let told = g.V.BusView.told in
    let registry_of = g.V.BusView.registry_of in
    let passes = g.G.Gate.passes in
    let alone = g.V.BusView.alone in
    let w = c.args.self.now.world in
    let v = c.act.new.self.world in
    let runs : Comes told registry_of passes alone (running c.args.name.value (Some c.in-Some.start)) w tt v =
    (v, record { action = _; done = refl; carries = tt; rest = c.act.ensures.world }, (refl, refl)) in
    subst (λ (s : Option ℕ). Comes told registry_of passes alone (running c.args.name.value s) w tt v) (sym c.in-Some.is) runs
