use Rattle.std.proofs.Common.{refl}
use Rattle.router_host_core.proofs.carrier.Carrier.start.Goals as goal
use Rattle.router_host_core.proofs.carrier.Carrier.start.Goals.{in-Ok, in-Err}

pub returns-clause-done : goal.returns-clause-done
returns-clause-done g c = elim c.match-start.branch [
  | in-Ok w ↦ rw (w.result-is, ← c.self.view_is, ← c.deref.ensures) (c.start.new.self, w.in-Ok.ensures.asked, refl)
  | in-Err w ↦ rw w.result-is tt
]
