use Rattle.message_core.specs.Said.{said}
use Rattle.router.proofs.Answering.{reads_call, reads_fault}
use Rattle.router.proofs.calls.serve_reading.Goals as goal

pub returns-in-Ok-clause-comes : goal.returns-in-Ok-clause-comes
returns-in-Ok-clause-comes g c =
    reads_call g.V.BusView.told g.V.BusView.registry_of g.G.Gate.passes g.V.BusView.alone (said c.args.message.now) c.args.caller c.args.reading.now c.in-Ok.call
    c.args.context.now.world c.show_gate.new.self.world c.serve_request.new.context.world c.serve_request.result c.in-Ok.is c.show_gate.ensures.passes c.serve_request.ensures.comes

pub returns-in-Err-clause-comes : goal.returns-in-Err-clause-comes
returns-in-Err-clause-comes g c =
    reads_fault g.V.BusView.told g.V.BusView.registry_of g.G.Gate.passes g.V.BusView.alone (said c.args.message.now) c.args.caller c.args.reading.now c.in-Err.fault c.error.result
    c.args.context.now.world c.refuse.new.context.world c.refuse.result c.in-Err.is c.error.ensures c.refuse.ensures.comes
