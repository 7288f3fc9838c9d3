use Rattle.std.proofs.Common.{◌≡◌}
use Rattle.test_seats.proofs.counting.greet.Given as goal

abbrev pub invariant-loop-hello : goal.invariant-loop-hello
invariant-loop-hello g l = l.seat.number ≡ l.initial.seat.number
