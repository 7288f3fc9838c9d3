use Rattle.routers.proofs.Servings.{serves_then}
use Rattle.routers.proofs.router_loop.Router.take_events.Goals as goal

pub returns-then-take_event : goal.returns-then-take_event
returns-then-take_event g c = record { serves = serves_then c.loop.invariant (rw (c.self-in-loop.view_is) at c.take_event.ensures.serves) }

pub loop-preserved : goal.loop-preserved
loop-preserved g c = serves_then c.loop.invariant (rw (c.self-in-loop.view_is) at c.take_event.ensures.serves)
