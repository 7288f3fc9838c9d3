use Rattle.routers.specs.Serving.{Unblocks}
use Rattle.routers.proofs.Servings.{serves_one}
use Rattle.routers.proofs.router_loop.Router.take_event.Goals as goal

pub returns-in-Writable : goal.returns-in-Writable
returns-in-Writable g c = record { serves = rw (← c.self-in-Writable.view_is) (serves_one (Unblocks c.in-Writable.key) c.writable.ensures) }
