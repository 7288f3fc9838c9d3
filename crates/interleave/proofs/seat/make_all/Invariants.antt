use Rattle.std.proofs.Common.{◌≡◌, map, take}
use Rattle.interleave.specs.Playing.{bus_along, making}
use Rattle.interleave.proofs.seat.make_all.Given as goal

-- the first of the changes were made
abbrev pub invariant-loop-made : goal.invariant-loop-made
invariant-loop-made l = l.bus ≡ bus_along l.fn.bus (map making (take l.made-index l.changes))
