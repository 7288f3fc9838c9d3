-- A read of a seat, as what the view of a bus does.
use Rattle.std.proofs.Common.{false, refl}
use Rattle.logbook.specs.Pages.{Book}
use Rattle.seq_bus_core.specs.Histories.{Begins, HasJust, History, IsLegal}
use Rattle.seq_bus_core.specs.Tickets.{WholeBus}
use Rattle.bus_view.specs.Views.{IsRead}
use Rattle.registry_snapshots.specs.Seats.{SeatView, knowledge_of}

pub read_here : (book : Book) (opening : WholeBus) (seat : SeatView) (now : History) → Begins seat.seen now → IsLegal now → HasJust seat.number seat.made now
    → IsRead false (knowledge_of book opening seat) (knowledge_of book opening (record seat { seen = now }))
read_here book opening seat now begun legal own = record { reached = record { begun = begun; same = λ e. absurd (cc e) }; kept = refl; legal = legal; own = own }
