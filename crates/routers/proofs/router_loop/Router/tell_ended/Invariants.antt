-- The host is as it was.
use Rattle.std.proofs.Common.{◌≡◌}
use Rattle.routers.proofs.router_loop.Router.tell_ended.Given as goal

abbrev pub invariant-loop-ended : goal.invariant-loop-ended
invariant-loop-ended g l = l.self-inside.host ≡ l.fn.self
