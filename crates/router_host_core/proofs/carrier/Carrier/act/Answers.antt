use Rattle.std.proofs.Common.{refl}
use Rattle.router_host_core.proofs.carrier.Carrier.act.Goals as goal

pub returns-in-Write-clause-done : goal.returns-in-Write-clause-done
returns-in-Write-clause-done g c = rw (c.in-Write.is, ← c.self.view_is) (c.write.new.self, c.write.ensures, refl)
