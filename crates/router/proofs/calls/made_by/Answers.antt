use Rattle.message_core.specs.Said.{said}
use Rattle.router.proofs.Answering.{made_still}
use Rattle.router.proofs.calls.made_by.Goals as goal

pub returns-in_default-clause-comes : goal.returns-in_default-clause-comes
returns-in_default-clause-comes g c =
    made_still g.V.BusView.told g.V.BusView.registry_of g.G.Gate.passes g.V.BusView.alone (said c.args.call.now) c.args.caller c.args.outcome c.args.outcome.reply
    c.args.context.now.world c.tell_change.new.context.world c.in_default.not-Gone c.tell_change.ensures.comes
