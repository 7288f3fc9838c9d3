use Rattle.std.proofs.Common.{◌≡◌, [], None}
use Rattle.starter.specs.States.{IsNotRun}
use Rattle.starter.proofs.Orders.{on_ok_both}
use Rattle.starter.proofs.Steps.{makes_then}
use Rattle.starter.proofs.starter.Starter.go_on.Goals as goal

pub returns-in_err-supervise-clause-steps : goal.returns-in_err-supervise-clause-steps
returns-in_err-supervise-clause-steps g c = λ now.
    makes_then (rw (← c.self.view_is, ← c.replace-deeds.ensures.value) (c.do_all.ensures.steps now)) (c.supervise.ensures.steps now)

pub returns-clause-steps : goal.returns-clause-steps
returns-clause-steps g c = λ now.
    makes_then (makes_then (rw (← c.self.view_is, ← c.replace-deeds.ensures.value) (c.do_all.ensures.steps now)) (c.supervise.ensures.steps now)) (c.supervise-2.ensures.steps now)

pub returns-clause-all : goal.returns-clause-all
returns-clause-all g c =
    on_ok_both (c.supervise-2.new.self.due ≡ []) (IsNotRun c.supervise.new.self.untold) (c.supervise-2.new.self.untold ≡ None)
    c.supervise-2.result c.supervise-2.ensures.all c.supervise-2.ensures.told c.in_ok-supervise.ensures.not_run
