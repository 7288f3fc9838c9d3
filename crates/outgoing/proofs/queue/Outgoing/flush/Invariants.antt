use Rattle.std.proofs.Common.{◌≡◌}
use Rattle.outgoing.specs.Flushing.{Flushes}
use Rattle.outgoing.proofs.queue.Outgoing.flush.Given as goal

abbrev pub invariant-loop : goal.invariant-loop
invariant-loop g l =
    Flushes l.initial.self l.self (g.S.Sink.taken l.initial.sink) (g.S.Sink.taken l.sink)
    × (g.S.Sink.remaining l.sink ≡ g.S.Sink.remaining l.initial.sink)
