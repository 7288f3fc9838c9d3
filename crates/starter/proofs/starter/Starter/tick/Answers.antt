use Rattle.std.proofs.Common.{refl}
use Rattle.starter.proofs.Steps.{makes_none, ticks}
use Rattle.starter.proofs.starter.Starter.tick.Goals as goal

pub returns-then-not-wants_tick-clause-steps : goal.returns-then-not-wants_tick-clause-steps
returns-then-not-wants_tick-clause-steps g c = λ now. makes_none refl

pub returns-clause-steps : goal.returns-clause-steps
returns-clause-steps g c = λ now. rw (← c.self.view_is) (ticks c.tick.result c.tick.ensures.happens c.tick.ensures.err refl)
