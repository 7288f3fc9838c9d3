use Rattle.std.proofs.Common.{subst, sym}
use Rattle.std.specs.List.{AllByRecursion}
use Rattle.seq_bus_core.specs.Histories.{Begins, History}
use Rattle.registry_snapshots.specs.Seats.{SeatView}
use Rattle.registry_snapshots.proofs.shared.Shared.whole_history.Goals as goal

pub returns-in-Ok-clause-seen : goal.returns-in-Ok-clause-seen
returns-in-Ok-clause-seen g c =
    subst (λ (whole : History). AllByRecursion (λ (seat : SeatView). Begins seat.seen whole) c.args.seats.items) (sym c.of.ensures) c.in-Ok.ensures.seen
