-- The host is as it was.
use Rattle.std.proofs.Common.{◌≡◌}
use Rattle.routers.proofs.router_loop.Router.take_mail_flags.Given as goal

abbrev pub invariant-loop-slot : goal.invariant-loop-slot
invariant-loop-slot g l = l.self-inside.host ≡ l.fn.self
