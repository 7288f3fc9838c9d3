use Rattle.std.proofs.Common.{◌≡◌}
use Rattle.router.proofs.peers.Peers.read_ahead.Given as goal

abbrev pub invariant-loop-key : goal.invariant-loop-key
invariant-loop-key g l = record { standing : l.self.standing ≡ l.initial.self.standing; work : l.self.work ≡ l.initial.self.work; keys : l.self.keys ≡ l.initial.self.keys }
