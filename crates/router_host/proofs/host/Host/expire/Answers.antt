use Rattle.std.proofs.Common.{sym, ◌∙◌}
use Rattle.router_host.proofs.host.Host.expire.Goals as goal

pub expire_unnamed-requires : goal.expire_unnamed-requires
expire_unnamed-requires g c = rw (← c.self.view_is) (sym c.number_of.ensures ∙ c.in-None.is)
