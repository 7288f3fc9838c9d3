use Rattle.std.proofs.Common.{◌≡◌, map}
use Rattle.registry_snapshots.specs.Seats.{SeatView}
use Rattle.test_seats.proofs.counting.greet_all.Given as goal

abbrev pub invariant-loop-place : goal.invariant-loop-place
invariant-loop-place g l =
    map (λ (seat : SeatView). seat.number) l.seats.items ≡ map (λ (seat : SeatView). seat.number) l.initial.seats.items
