use Rattle.std.proofs.Common.{◌≡◌, ◌++◌, length, map}
use Rattle.activation.specs.Settling.{settled_as}
use Rattle.activation.proofs.calls.hand_out.Given as goal

abbrev pub invariant-loop-given : goal.invariant-loop-given
invariant-loop-given l = record {
  held : l.holder.held ≡ l.initial.holder.held;
  room : l.settled.room ≡ l.initial.settled.room;
  all : l.settled.tickets ++ map settled_as l.holder.given ≡ l.initial.settled.tickets ++ map settled_as l.initial.holder.given;
}

abbrev pub decreases-loop-given : goal.decreases-loop-given
decreases-loop-given l = length l.holder.given
