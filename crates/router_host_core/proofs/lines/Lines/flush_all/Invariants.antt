-- The connections that were flushed so far.
use Rattle.router_host_core.specs.Sockets.{IsFlushedAt}
use Rattle.router_host_core.proofs.Steps.{Runs}
use Rattle.router_host_core.proofs.lines.Lines.flush_all.Given as goal

abbrev pub invariant-loop : goal.invariant-loop
invariant-loop g l = Runs IsFlushedAt l.fn.self l.self
