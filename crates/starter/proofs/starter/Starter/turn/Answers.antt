use Rattle.std.proofs.Common.{refl, subst, sym}
use Rattle.starter.specs.States.{IsIdle}
use Rattle.starter.proofs.Orders.{on_ok_then}
use Rattle.starter.proofs.Steps.{makes_then, turns}
use Rattle.starter.proofs.starter.Starter.turn.Goals as goal

pub returns-clause-steps : goal.returns-clause-steps
returns-clause-steps g c =
    makes_then {b = c.tick-ticked.new.self} (makes_then c.tell_all-reported.ensures.steps (c.tick-ticked.ensures.steps c.args.now))
    (rw (← c.self.view_is) (turns c.turn-turned.ensures.does refl))

pub returns-clause-all : goal.returns-clause-all
returns-clause-all g c =
    on_ok_then c.outcome.result c.tell_all-reported.result c.outcome.ensures c.tell_all-reported.ensures.all
    (λ idle. subst (λ s. IsIdle s) (sym c.self.view_is) (subst (λ s. IsIdle s) (sym c.tick-ticked.ensures.same) idle))
