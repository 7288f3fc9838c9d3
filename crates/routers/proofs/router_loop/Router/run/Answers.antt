use Rattle.std.proofs.Common.{refl, ◌∙◌}
use Rattle.routers.proofs.Servings.{serves_same, serves_then}
use Rattle.routers.proofs.router_loop.Router.run.Goals as goal

pub loop-init : goal.loop-init
loop-init g c = serves_same refl

pub returns-then-take_events : goal.returns-then-take_events
returns-then-take_events g c = record { serves = serves_then c.loop.invariant (rw (c.rest.ensures.same) at c.take_events.ensures.serves) }

pub loop-preserved : goal.loop-preserved
loop-preserved g c =
    serves_then c.loop.invariant
    (serves_then (rw (c.rest.ensures.same) at c.take_events.ensures.serves)
    (serves_then c.turn.ensures.serves (serves_same (c.record.ensures.same ∙ c.self-in-loop.view_is))))

pub returns-in_err-record : goal.returns-in_err-record
returns-in_err-record g c = record {
  serves =
      serves_then c.loop.invariant
      (serves_then (rw (c.rest.ensures.same) at c.take_events.ensures.serves)
      (serves_then c.turn.ensures.serves (serves_same (c.record.ensures.same ∙ c.self-in-loop.view_is))));
}
