use Rattle.router_steps.specs.Hearing.{heard_change}
use Rattle.router.proofs.calls.make.Goals as goal

pub returns-clause-comes : goal.returns-clause-comes
returns-clause-comes g c = (heard_change c.change-told.result, c.change-told.new.self.world, c.change-told.ensures.changes, c.made.ensures.comes)
