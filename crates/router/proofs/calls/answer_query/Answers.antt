use Rattle.std.proofs.Common.{rules, ◌≡◌, Ok, Err}
use Rattle.message_core.specs.Said.{said}
use Rattle.bus_view.specs.declared.answer.Asked.TheVariants.{Body, NameHasNoOwner}
use Rattle.router.proofs.Answering.{asked_body, asked_none, asked_fault}
use Rattle.router.proofs.calls.answer_query.Goals as goal

pub returns-in-Ok-Body-clause-comes : goal.returns-in-Ok-Body-clause-comes
returns-in-Ok-Body-clause-comes g c =
    let is : c.ask.result ≡ Ok Body = search rules in
    asked_body g.V.BusView.told g.V.BusView.registry_of g.G.Gate.passes g.V.BusView.alone (said c.args.call.now) c.args.caller c.args.query.now c.ask.result c.ask.new.body.items
    c.args.context.now.world c.ask.new.self.world c.reply_body.new.context.world c.ask.ensures.asks is c.reply_body.ensures.comes

pub returns-in-Ok-NameHasNoOwner-clause-comes : goal.returns-in-Ok-NameHasNoOwner-clause-comes
returns-in-Ok-NameHasNoOwner-clause-comes g c =
    let is : c.ask.result ≡ Ok NameHasNoOwner = search rules in
    asked_none g.V.BusView.told g.V.BusView.registry_of g.G.Gate.passes g.V.BusView.alone (said c.args.call.now) c.args.caller c.args.query.now c.ask.result c.ask.new.body.items
    c.args.context.now.world c.ask.new.self.world c.refuse.new.context.world c.ask.ensures.asks c.refuse.result is c.refuse.ensures.comes

pub returns-in-Err-clause-comes : goal.returns-in-Err-clause-comes
returns-in-Err-clause-comes g c =
    let is : c.ask.result ≡ Err c.in-Err.fault = search rules in
    asked_fault g.V.BusView.told g.V.BusView.registry_of g.G.Gate.passes g.V.BusView.alone (said c.args.call.now) c.args.caller c.args.query.now c.ask.result c.ask.new.body.items
    c.args.context.now.world c.ask.new.self.world c.refuse-in-Err.new.context.world c.ask.ensures.asks c.refuse-in-Err.result c.in-Err.fault c.error_unanswered.result is c.error_unanswered.ensures c.refuse-in-Err.ensures.comes
