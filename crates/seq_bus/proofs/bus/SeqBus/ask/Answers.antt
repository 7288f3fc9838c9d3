use Rattle.std.proofs.Common.{◌≡◌, ap, sym, subst, ◌∙◌}
use Rattle.std.proofs.lemmas.Result.{IfOk-weaker}
use Rattle.seq_bus_core.specs.Answers.{answer}
use Rattle.seq_bus_core.specs.BusState.{BusState}
use Rattle.bus_view.specs.Bodies.{Answers}
use Rattle.seq_bus.specs.PlainBus.{PlainBus, bus_now}
use Rattle.seq_bus.proofs.bus.SeqBus.ask.Goals as goal

pub returns-clause-answered : goal.returns-clause-answered
returns-clause-answered c =
    let now : (bus_now c.args.self.now).state ≡ c.self.inside.registry = ap (λ (b : PlainBus). (bus_now b).state) (sym c.self.view_is) ∙ c.self.invariant.now in
    IfOk-weaker c.answer.result _ _
    (λ asked h. subst (λ (b : BusState). Answers asked (answer b c.args.query.now) c.args.body.now.items c.answer.new.body.items) (sym now) h) c.answer.ensures.answered
