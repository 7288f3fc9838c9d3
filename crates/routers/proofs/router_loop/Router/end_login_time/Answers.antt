use Rattle.routers.specs.Serving.{Expires}
use Rattle.routers.proofs.Servings.{serves_one, serves_same, serves_then}
use Rattle.routers.proofs.router_loop.Router.end_login_time.Goals as goal

pub returns : goal.returns
returns g c = record {
  serves =
      rw (← c.self.view_is)
      (serves_then (serves_same c.has_unnamed-is_wanted.ensures)
      (serves_one Expires c.end_login_time.ensures));
}
