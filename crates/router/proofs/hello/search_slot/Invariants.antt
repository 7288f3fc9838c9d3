use Rattle.std.proofs.Common.{◌≡◌, ◌<◌, ℕ, None, false, get_or}
use Rattle.router_core.specs.Standing.{has_slot}
use Rattle.router.proofs.hello.search_slot.Given as goal

abbrev pub invariant-loop-key : goal.invariant-loop-key
invariant-loop-key l = (k : ℕ) → k < l.key → has_slot l.slot (get_or l.peers.slots k None) ≡ false
