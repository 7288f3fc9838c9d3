use Rattle.starter.proofs.starter.Starter.tell.Goals as goal

pub returns-clause-steps : goal.returns-clause-steps
returns-clause-steps g c = rw (← c.self.view_is) c.go_on.ensures.steps
