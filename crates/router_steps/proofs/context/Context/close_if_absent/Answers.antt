use Rattle.std.proofs.Common.{rules, ◌≡◌, true, false, refl, subst}
use Rattle.router_core.specs.Answers.{Says}
use Rattle.router_core.specs.Scripts.{AsksPresence}
use Rattle.router_steps.specs.Hearing.{heard_present}
use Rattle.router_steps.proofs.context.Context.close_if_absent.Goals as goal

pub returns-in-Ok-true-clause-comes : goal.returns-in-Ok-true-clause-comes
returns-in-Ok-true-clause-comes g c =
    let heard : heard_present c.is_present.result ≡ Says true = search rules in
    (Says true, c.is_present.new.self.world, subst (λ h. AsksPresence g.V.BusView.alone c.args.conn.number c.args.self.now.world h c.is_present.new.self.world) heard c.is_present.ensures.asks, (refl, refl))

pub returns-in-Ok-false-clause-comes : goal.returns-in-Ok-false-clause-comes
returns-in-Ok-false-clause-comes g c =
    let heard : heard_present c.is_present.result ≡ Says false = search rules in
    (Says false, c.is_present.new.self.world, subst (λ h. AsksPresence g.V.BusView.alone c.args.conn.number c.args.self.now.world h c.is_present.new.self.world) heard c.is_present.ensures.asks, c.close_peer.ensures.comes)
