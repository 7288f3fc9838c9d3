use Rattle.message_core.specs.Said.{said}
use Rattle.router_steps.specs.Carrying.{answer_of}
use Rattle.router.proofs.Answering.{tells_change}
use Rattle.router.proofs.calls.tell_change.Goals as goal

pub returns-clause-comes : goal.returns-clause-comes
returns-clause-comes g c =
    tells_change g.V.BusView.told g.V.BusView.registry_of g.G.Gate.passes g.V.BusView.alone (said c.args.call.now) c.args.caller c.args.outcome (answer_of c.answer_told.result)
    c.args.context.now.world c.announce.new.self.world c.answer_with.new.self.world c.release_all.new.self.world c.announce.ensures.announces c.answer_told.ensures c.answer_with.ensures.comes c.release_all.ensures.comes
