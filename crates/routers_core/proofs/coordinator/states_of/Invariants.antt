use Rattle.std.proofs.Common.{◌≡◌, length}
use Rattle.routers_core.proofs.coordinator.states_of.Given as goal

abbrev pub invariant-loop-waker : goal.invariant-loop-waker
invariant-loop-waker g l = length l.states.items ≡ length l.yielded
