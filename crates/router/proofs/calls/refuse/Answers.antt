use Rattle.message_core.specs.Said.{said}
use Rattle.router_core.specs.Serving.{erring}
use Rattle.router.proofs.Answering.{stays}
use Rattle.router.proofs.calls.refuse.Goals as goal

pub returns-clause-comes : goal.returns-clause-comes
returns-clause-comes g c =
    stays g.V.BusView.told g.V.BusView.registry_of g.G.Gate.passes g.V.BusView.alone (erring (said c.args.call.now) c.args.caller c.args.error) c.args.context.now.world c.err_with.new.self.world c.err_with.ensures.comes
