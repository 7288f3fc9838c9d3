use Rattle.std.proofs.Common.{◌≡◌, length}
use Rattle.router_host_core.proofs.put_out.PutOut.first_untold.Given as goal

abbrev pub invariant-loop-slot : goal.invariant-loop-slot
invariant-loop-slot l = (length l.self-inside.conns ≡ 256) × (l.self-inside.conns ≡ l.fn.self)
