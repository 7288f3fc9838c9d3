use Rattle.std.proofs.Common.{◌≡◌, ◌∙◌, ap, map}
use Rattle.std.proofs.Math.Seq.{map-set_same}
use Rattle.registry_snapshots.specs.Seats.{SeatView}
use Rattle.test_seats.proofs.counting.greet_all.Goals as goal

pub returns-in_err-greet : goal.returns-in_err-greet
returns-in_err-greet g c =
    map-set_same (λ (seat : SeatView). seat.number) c.loop-place.seats.items c.loop-place.place c.greet.new.seat c.index_mut.result.now
    (c.greet.ensures ∙ ap (λ (seat : SeatView). seat.number) c.index_mut.ensures.value)
    ∙ c.loop-place.invariant

pub loop-place-preserved : goal.loop-place-preserved
loop-place-preserved g c =
    map-set_same (λ (seat : SeatView). seat.number) c.loop-place.seats.items c.loop-place.place c.greet.new.seat c.index_mut.result.now
    (c.greet.ensures ∙ ap (λ (seat : SeatView). seat.number) c.index_mut.ensures.value)
    ∙ c.loop-place.invariant
