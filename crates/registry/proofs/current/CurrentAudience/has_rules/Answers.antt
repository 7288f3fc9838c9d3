use Rattle.registry.proofs.ListeningLemmas.{nobody_wants}
use Rattle.registry.proofs.current.CurrentAudience.has_rules.Goals as goal

pub returns : goal.returns
returns g c none facts = nobody_wants c.args.self.now.registry.now facts (c.has_rules.ensures none)
