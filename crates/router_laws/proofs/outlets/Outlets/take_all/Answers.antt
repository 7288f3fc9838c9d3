use Rattle.router_laws.proofs.Courses.{takes_more}
use Rattle.router_laws.proofs.outlets.Outlets.take_all.Goals as goal

pub loop-action-preserved : goal.loop-action-preserved
loop-action-preserved c =
    takes_more c.args.actions.now c.loop-action.action-index c.action-item.result c.args.self.now c.loop-action.self c.take.new.self c.loop-action-test.true c.action-item.is c.loop-action.invariant c.in_ok-take.ensures
