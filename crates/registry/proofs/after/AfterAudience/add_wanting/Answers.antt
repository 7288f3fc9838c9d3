use Rattle.std.proofs.Common.{◌&&◌, sym, ap, ◌∙◌}
use Rattle.seq_bus_core.specs.BusState.{BusState, head_of}
use Rattle.seq_bus_core.specs.Recipients.{all_that_want, conns_that, wants_by}
use Rattle.registry_core.specs.Listening.{stays}
use Rattle.registry.specs.Pendings.{leaver_of}
use Rattle.registry.proofs.AfterLemmas.{wanting_after}
use Rattle.registry.proofs.after.AfterAudience.add_wanting.Goals as goal

pub returns-clause-value : goal.returns-clause-value
returns-clause-value c =
    let s : BusState = c.self.inside.registry.now in
    let p = c.self.inside.pending in
    let next : BusState = c.args.self.now in
    let facts = c.args.facts.now in
    c.add_those_that_want.ensures.value
    ∙ ap (λ l. conns_that (λ d. stays l d.number && wants_by (head_of next) s.rules facts d) s.connections) c.leaver.ensures
    ∙ ap (λ (t : BusState). conns_that (λ d. stays (leaver_of p) d.number && wants_by (head_of t) s.rules facts d) s.connections) (sym c.self.view_is)
    ∙ wanting_after s p facts c.add_those_that_want.ensures.consistent c.self.invariant ∙ ap (λ (t : BusState). all_that_want t facts) c.self.view_is
