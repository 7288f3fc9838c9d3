use Rattle.message_core.specs.Said.{said}
use Rattle.router.proofs.Answering.{read_so}
use Rattle.router.proofs.calls.serve_call.Goals as goal

pub returns-clause-comes : goal.returns-clause-comes
returns-clause-comes g c =
    read_so g.V.BusView.told g.V.BusView.registry_of g.G.Gate.passes g.V.BusView.alone (said c.args.message.now) c.args.caller c.read_call-reading.result
    c.args.context.now.world c.serve_reading.new.context.world c.serve_reading.result c.read_call-reading.ensures c.serve_reading.ensures.comes
