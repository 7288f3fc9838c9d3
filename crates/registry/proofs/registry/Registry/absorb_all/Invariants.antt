use Rattle.std.proofs.Common.{◌≡◌, take}
use Rattle.registry.specs.PreparedChanges.{absorbed_along}
use Rattle.registry.proofs.registry.Registry.absorb_all.Given as goal

-- so many of the changes were made
abbrev pub invariant-loop-next : goal.invariant-loop-next
invariant-loop-next l = l.self ≡ absorbed_along l.fn.self (take l.next-index l.prepared)
