use Rattle.routers.specs.Serving.{Turns}
use Rattle.routers.proofs.Servings.{serves_one, serves_same, serves_then}
use Rattle.routers.proofs.router_loop.Router.turn.Goals as goal

pub returns : goal.returns
returns g c = record {
  serves =
      serves_then (rw (c.take_flags.ensures.same) at c.tick-ticked.ensures.serves)
      (serves_then (rw (c.self.view_is) at (serves_one {asks = g.E.Source.asks} {remaining = g.S.Sink.remaining} {taken = g.S.Sink.taken} Turns c.turn-turned.ensures.does))
      (serves_then c.end_login_time.ensures.serves
      (serves_same c.tell_ended.ensures.same)));
}
