use Rattle.std.proofs.Common.{sym, ap, ◌∙◌}
use Rattle.seq_bus_core.specs.BusState.{BusState}
use Rattle.seq_bus_core.specs.Recipients.{all_that_want}
use Rattle.registry.specs.Pendings.{state_after}
use Rattle.registry.proofs.AfterLemmas.{no_rules_after}
use Rattle.registry.proofs.ListeningLemmas.{nobody_wants}
use Rattle.registry.proofs.after.AfterAudience.has_rules.Goals as goal

pub returns : goal.returns
returns c none facts =
    let s : BusState = c.self.inside.registry.now in
    let p = c.self.inside.pending in
    ap (λ (t : BusState). all_that_want t facts) (sym c.self.view_is) ∙ nobody_wants (state_after p s) facts (no_rules_after p s (c.has_rules.ensures none))
