use Rattle.std.proofs.Common.{◌≡◌, ◌+◌, ◌-◌, not}
use Rattle.std.specs.List.{find, range_with_len}
use Rattle.seq_bus_core.specs.Steps.{free_slot, is_taken}
use Rattle.registry.proofs.registry.Registry.free_slot.Given as goal

-- no slot before this one is free
abbrev pub invariant-loop-slot : goal.invariant-loop-slot
invariant-loop-slot l = free_slot l.self l.seat ≡ find (λ slot. not (is_taken l.self slot)) (range_with_len l.slot (l.first + l.count - l.slot))
