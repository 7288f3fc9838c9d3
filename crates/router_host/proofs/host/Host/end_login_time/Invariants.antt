-- The connections that are over so far.
use Rattle.router_host.specs.Expiring.{LoginTimeEnds}
use Rattle.router_host.proofs.host.Host.end_login_time.Given as goal

abbrev pub invariant-loop-key : goal.invariant-loop-key
invariant-loop-key g l = LoginTimeEnds l.fn.self l.self
