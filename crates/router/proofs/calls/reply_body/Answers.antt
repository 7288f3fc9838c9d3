use Rattle.std.proofs.Common.{rules, ◌≡◌, true, ℕ, List, subst, sym}
use Rattle.seq_bus_core.specs.Answers.{Answer}
use Rattle.message_core.specs.Said.{said}
use Rattle.outbox_core.specs.Answers.{IsAnswerTo}
use Rattle.outbox_core.specs.Contents.{Answered}
use Rattle.router_core.specs.Scripts.{Comes}
use Rattle.router_core.specs.Serving.{replying}
use Rattle.router.proofs.calls.reply_body.Goals as goal

pub returns-in-Ok-clause-comes : goal.returns-in-Ok-clause-comes
returns-in-Ok-clause-comes g c told is =
    let bytes : c.new-in-Ok.result ≡ c.args.body.items = search rules in
    let so : c.new-answer.result ≡ told = c.new-answer.ensures told (subst (λ (bs : List ℕ). IsAnswerTo c.args.query.now bs told) (sym bytes) is) in
    (true, subst (λ (a : Answer). Comes g.V.BusView.told g.V.BusView.registry_of g.G.Gate.passes g.V.BusView.alone (replying (said c.args.call.now) c.args.caller (Answered a)) c.args.context.now.world tt c.reply_with.new.self.world) so c.reply_with.ensures.comes)
