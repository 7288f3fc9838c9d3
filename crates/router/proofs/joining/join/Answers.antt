use Rattle.std.proofs.Common.{refl, subst}
use Rattle.message_core.specs.Said.{said}
use Rattle.message.specs.FactsOf.{facts_of}
use Rattle.router_core.specs.Answers.{Says, Refuses, Lost}
use Rattle.router_core.specs.Scripts.{World, Routes}
use Rattle.router.proofs.joining.join.Goals as goal

pub returns-in-Ok-clause-comes : goal.returns-in-Ok-clause-comes
returns-in-Ok-clause-comes g c rule is =
    let heard = Says c.ask_route.new.verdict in
    let r = c.ask_route.new.context.world in
    let routes = subst (λ (w : World g.row.V-Note.Denot g.row.G.Denot). Routes g.V.BusView.alone c.args.caller.number (facts_of (said c.args.message.now)) w heard r) c.take_verdict-verdict.ensures.world c.in-Ok.ensures.routes in
    (heard, r, routes, c.join_to.ensures.comes rule is)

pub returns-in-Err-clause-comes : goal.returns-in-Err-clause-comes
returns-in-Err-clause-comes g c rule is =
    let r = c.ask_route.new.context.world in
    let routes = subst (λ (w : World g.row.V-Note.Denot g.row.G.Denot). Routes g.V.BusView.alone c.args.caller.number (facts_of (said c.args.message.now)) w (Refuses Lost) r) c.take_verdict-verdict.ensures.world c.in-Err.ensures.routes in
    (Refuses Lost, r, routes, (refl, refl))
