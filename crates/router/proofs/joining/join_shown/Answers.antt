use Rattle.std.proofs.Common.{◌∙◌, ap}
use Rattle.message_core.specs.Said.{said}
use Rattle.router_steps.specs.OncePut.{is_long}
use Rattle.router.proofs.Joins.{joins_shown}
use Rattle.router.proofs.joining.join_shown.Goals as goal

pub returns-in-Ok-clause-comes : goal.returns-in-Ok-clause-comes
returns-in-Ok-clause-comes g c rule is =
    joins_shown g.V.BusView.told g.V.BusView.registry_of g.G.Gate.passes g.V.BusView.alone (said c.args.message.now) c.args.caller rule c.args.call.now
    c.args.context.now.world c.show.new.self.world c.show_gate.new.self.world is c.show_gate.ensures.passes c.args.verdict.value.monitors (λ some. c.show.ensures.too_long some ∙ ap is_long c.in-Ok.is) c.in-Ok.ensures.put
