use Rattle.std.proofs.Common.{sym, ◌∙◌}
use Rattle.registry.proofs.ListeningLemmas.{nobody_shown}
use Rattle.registry.proofs.current.CurrentAudience.has_monitors.Goals as goal

pub returns : goal.returns
returns g c none facts = nobody_shown c.args.self.now.registry.now facts (sym c.has_monitors.ensures ∙ none)
