use Rattle.registry.proofs.MonitorLemmas.{no_more_than}
use Rattle.registry.proofs.current.CurrentAudience.add_shown.Goals as goal

pub returns-clause-few : goal.returns-clause-few
returns-clause-few g c = rw c.add_monitors_shown.ensures.value (no_more_than _ _ 256 c.add_monitors_shown.ensures.few)
