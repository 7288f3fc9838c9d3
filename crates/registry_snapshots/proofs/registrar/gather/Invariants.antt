-- What was gathered so far, and the seats that are left.
use Rattle.std.proofs.Common.{◌≡◌, ◌+◌, ◌++◌, List, length}
use Rattle.std.specs.List.{AllByRecursion}
use Rattle.seq_bus_core.specs.Histories.{Begins}
use Rattle.registry_snapshots.specs.Seats.{SeatView}
use Rattle.registry_snapshots.specs.Tallies.{made_by, parts_by}
use Rattle.registry_snapshots.proofs.registrar.gather.Given as goal

abbrev pub invariant-loop-seat : goal.invariant-loop-seat
invariant-loop-seat g l =
    ((gathered : List SeatView) × (l.fn.seats.items ≡ l.seats.items ++ gathered)
    × AllByRecursion (λ (seat : SeatView). Begins seat.seen l.fn.whole.log) gathered)
    × (l.all.parts + parts_by g.J.Naming.opening.state.routers l.seats.items ≡ l.fn.all.parts + parts_by g.J.Naming.opening.state.routers l.fn.seats.items)
    × (l.all.amount + made_by l.seats.items ≡ l.fn.all.amount + made_by l.fn.seats.items)

abbrev pub decreases-loop-seat : goal.decreases-loop-seat
decreases-loop-seat g l = length l.seats.items
