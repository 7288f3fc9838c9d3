use Rattle.std.proofs.Common.{◌≡◌, ◌<◌, ℕ, None, false, get_or}
use Rattle.router_core.specs.Standing.{is_conn}
use Rattle.router.proofs.mail.search_addressed.Given as goal

abbrev pub invariant-loop-key : goal.invariant-loop-key
invariant-loop-key l = (k : ℕ) → k < l.key → is_conn l.slot l.number (get_or l.peers.slots k None) ≡ false
