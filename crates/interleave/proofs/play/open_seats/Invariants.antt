use Rattle.std.proofs.Common.{◌≡◌, [], map, replicate}
use Rattle.interleave.specs.Playing.{sight, sight_of}
use Rattle.interleave.proofs.play.open_seats.Given as goal

-- so many seats are open
abbrev pub invariant-loop : goal.invariant-loop
invariant-loop l = map sight l.seats.items ≡ map (sight_of l.world) (replicate l.counter [])
