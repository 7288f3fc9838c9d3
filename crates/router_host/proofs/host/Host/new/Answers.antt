use Rattle.std.proofs.Common.{refl}
use Rattle.router_host.proofs.host.Host.new.Goals as goal

pub returns : goal.returns
returns g c = rw (c.new-2.ensures, c.new-3.ensures.items) refl
