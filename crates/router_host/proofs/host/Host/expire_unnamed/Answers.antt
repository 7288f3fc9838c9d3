use Rattle.std.proofs.Common.{refl}
use Rattle.router_host.proofs.Expirings.{expires_one}
use Rattle.router_host.proofs.host.Host.expire_unnamed.Goals as goal

pub returns : goal.returns
returns g c =
    expires_one c.args.key
    (c.requires, rw (← c.self.view_is, ← c.self-inside.view_is, c.end.ensures, c.age.ensures) refl)
