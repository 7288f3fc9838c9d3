use Rattle.std.proofs.Common.{◌≡◌, ◌++◌, ℕ, None, length, replicate}
use Rattle.router_host_core.proofs.lines.Lines.make_room.Given as goal

abbrev pub invariant-loop-key : goal.invariant-loop-key
invariant-loop-key g l =
    ((count : ℕ) × (l.self-inside.table.items ≡ l.fn.self ++ replicate count None))
    × (length l.self-inside.table.items ≡ l._key)
