use Rattle.std.proofs.Common.{◌≡◌, true, false, [], ◌∷◌, refl, sym, ap, ◌∙◌}
use Rattle.outbox_core.specs.declared.bus_message.BusMessage.TheVariants.{Signal}
use Rattle.outbox_core.specs.declared.content.Content.TheVariants.{Own}
use Rattle.router_core.specs.Addressed.{Addressed}
use Rattle.router_core.specs.declared.action.Action.TheVariants.{Put}
use Rattle.router_core.specs.Scripts.{having_done}
use Rattle.router_steps.proofs.Signals.{nothing_done, put_to_none, put_to_some}
use Rattle.router_steps.proofs.context.Context.put_signal.Goals as goal

pub returns-then-is_told_nobody-clause-world : goal.returns-then-is_told_nobody-clause-world
returns-then-is_told_nobody-clause-world g c =
    let w = c.args.self.now.world in
    sym (ap (having_done w) (put_to_none c.args.note c.args.addressed (c.if-is_told_nobody.ensures.0 refl)) ∙ nothing_done w)

pub returns-clause-world : goal.returns-clause-world
returns-clause-world g c =
    let w = c.args.self.now.world in
    let s = c.args.addressed in
    let never = λ (none : (s.to ≡ []) × (s.monitors ≡ [])). let bad : ⊥ = let e : false ≡ true = c.if-is_told_nobody.ensures.1 none in cc in bad in
    c.act.ensures.world
    ∙ ap (λ (to : Addressed). having_done w (Put to c.args.note (Own (Signal s.signal)) ∷ [])) c.of_signal.ensures
    ∙ sym (ap (having_done w) (put_to_some c.args.note s s.to s.monitors never))
