use Rattle.std.proofs.Common.{refl, inr}
use Rattle.router_host.proofs.host.Host.serve.Goals as goal

pub returns-in-Err-clause-brought : goal.returns-in-Err-clause-brought
returns-in-Err-clause-brought g c =
    inr (c.dispatch.new.self, c.in-Err.ensures.err, rw (← c.self.view_is, c.in-Err.ensures.handed_back) refl)
