use Rattle.std.proofs.Common.{◌≡◌, ◌-◌, ◌≤◌, ◌++◌, length, take}
use Rattle.sasl.specs.Conversations.{Converses}
use Rattle.sasl.proofs.server.Server.feed.Given as goal

abbrev pub invariant-loop-used : goal.invariant-loop-used
invariant-loop-used l = record {
  within : l.used ≤ length l.piece;
  setting : l.self.setting ≡ l.initial.self.setting;
  goes_on : Converses l.initial.self.setting l.initial.self.state (l.initial.self.unfinished ++ take l.used l.piece) l.sent.items l.self.state l.self.unfinished;
}

abbrev pub decreases-loop-used : goal.decreases-loop-used
decreases-loop-used l = length l.piece - l.used
