use Rattle.router_host.proofs.Expirings.{expires_then}
use Rattle.router_host.proofs.host.Host.end_login_time.Goals as goal

pub loop-key-preserved : goal.loop-key-preserved
loop-key-preserved g c = expires_then c.loop-key.invariant c.expire.ensures
