use Rattle.routers.proofs.Servings.{serves_tick}
use Rattle.routers.proofs.router_loop.Router.tick.Goals as goal

pub returns : goal.returns
returns g c = record { serves = rw (← c.self.view_is) (serves_tick c.tick.result c.tick.ensures.happens c.tick.ensures.err) }
