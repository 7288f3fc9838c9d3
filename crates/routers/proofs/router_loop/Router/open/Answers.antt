use Rattle.routers.proofs.Servings.{serves_coming}
use Rattle.routers.proofs.router_loop.Router.open.Goals as goal

pub returns-in-Err : goal.returns-in-Err
returns-in-Err g c = record {
  serves = rw (← c.self.view_is) (serves_coming c.watch.new.socket c.args.challenge c.open-opened.result (c.watch.ensures.asks c.args.challenge c.requires) c.open-opened.ensures.opens c.open-opened.ensures.err);
}

pub returns-in_default : goal.returns-in_default
returns-in_default g c = record {
  serves = rw (← c.self.view_is) (serves_coming c.watch.new.socket c.args.challenge c.open-opened.result (c.watch.ensures.asks c.args.challenge c.requires) c.open-opened.ensures.opens c.open-opened.ensures.err);
}
