use Rattle.std.proofs.Common.{ap, refl, sym, subst, ◌∙◌}
use Rattle.std.specs.List.{list_any}
use Rattle.seq_bus_core.specs.BusState.{BusState, is_monitor}
use Rattle.seq_bus_core.specs.Histories.{History, HasJust, Begins}
use Rattle.seq_bus_core.proofs.Extending.{begins_trans}
use Rattle.registry_snapshots_core.specs.Copies.{SnapView}
use Rattle.registry_snapshots_core.proofs.Prefixes.{begins_same}
use Rattle.registry_snapshots.specs.Seats.{SeatView, seat_at}
use Rattle.registry_snapshots.proofs.SeatLemmas.{read_here}
use Rattle.registry_snapshots.proofs.seat.Seat.end_reading.Goals as goal

pub invariant_of-self : goal.invariant_of-self
invariant_of-self g c =
    let log : History = c.args.prefix.log in
    let read = c.requires.read in
    let begun : Begins c.self.inside.prefix.log log = subst (λ (v : SeatView). Begins v.seen log) (sym c.self.view_is) read.reached.begun in
    let own : HasJust c.self.inside.number c.self.inside.tally.made log = subst (λ (v : SeatView). HasJust v.number v.made log) (sym c.self.view_is) read.own in
    let bus = ap (λ (s : SnapView). s.bus) c.get.ensures ∙ c.requires.copy in
    let any = sym (ap (λ (b : BusState). list_any is_monitor b.connections) bus) ∙ sym c.has_monitors-self-inside.ensures in
    let now : SeatView = seat_at c.self.inside.number log c.self.inside.tally.made c.self.inside.last c.self.inside.held in (
      c.requires.book,
      λ held is. begins_trans held c.self.inside.prefix.log log (c.self.invariant.1 held is) begun,
      λ unwatched. record { read = read_here g.J.Naming.book g.J.Naming.opening now log (begins_same log log refl) read.legal own; none = any ∙ unwatched },
      c.self.invariant.3,
      c.self.invariant.4,
    )
