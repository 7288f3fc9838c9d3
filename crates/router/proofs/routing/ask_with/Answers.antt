use Rattle.std.proofs.Common.{subst, ◌∙◌}
use Rattle.std.specs.Prelude.{map}
use Rattle.match_rules.specs.Facts.{Facts}
use Rattle.match_rules.specs.FactsView.{argument_of}
use Rattle.message_core.specs.Said.{said}
use Rattle.router_steps.specs.Hearing.{heard_verdict}
use Rattle.router_core.specs.Scripts.{Routes}
use Rattle.router.proofs.Verdicts.{routes_seen}
use Rattle.router.proofs.routing.ask_with.Goals as goal

pub returns-clause-routes : goal.returns-clause-routes
returns-clause-routes g c =
    let heard = heard_verdict c.route.result c.route.new.verdict in
    let alone = g.V.BusView.alone in
    routes_seen alone (said c.args.message.now) c.args.sender c.args.context.now.world c.route.new.self.world heard (map argument_of c.args.arguments.now) c.requires
    (subst (λ (f : Facts). Routes alone c.args.sender.number (record f { sender = c.args.sender.number }) c.args.context.now.world heard c.route.new.self.world) (c.seen.view_is ∙ c.facts-seen.ensures) c.route.ensures.routes)
