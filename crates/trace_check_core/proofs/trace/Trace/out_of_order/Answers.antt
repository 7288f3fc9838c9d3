use Rattle.std.proofs.Common.{◌≡◌, ◌+◌, ◌<◌, ℕ, List, length, length-set, get_or, take, true, sym, ap, ◌∙◌, arith}
use Rattle.trace_lines.specs.Lines.{Line}
use Rattle.trace_check_core.specs.Legality.{of_seat}
use Rattle.trace_check_core.specs.SeatViews.{seat_so_far}
use Rattle.trace_check_core.specs.Verdicts.{is_in_order}
use Rattle.trace_check_core.specs.declared.seats.SeatSoFar.{SeatSoFar}
use Rattle.trace_check_core.proofs.Refusals.{passed_at}
use Rattle.trace_check_core.proofs.SeatLemmas.{seats_more}
use Rattle.trace_check_core.proofs.trace.Trace.out_of_order.Goals as goal

pub loop-line-preserved : goal.loop-line-preserved
loop-line-preserved c =
    let lines : List Line = c.lines-lines.result.now in
    let i : ℕ = c.loop-line.line-index in
    let line : Line = c.line-item.result in
    let within : i < length lines = omega arith in
    let few : c.seat-seat.result < 9 = omega (arith, c.seat-seat.ensures.few) in
    let none : SeatSoFar = record { highest = 0; changes = 0 } in
    let here : get_or c.loop-line.seats c.seat-seat.result none ≡ seat_so_far (of_seat line.seat (take i lines)) =
    c.loop-line.invariant.seats c.seat-seat.result none few ∙ ap (λ (n : ℕ). seat_so_far (of_seat n (take i lines))) c.seat-seat.ensures.value in
    let passes : is_in_order (take i lines) line ≡ true = sym (c.if-not-admits.ensures (of_seat line.seat (take i lines)) here) in
    record {
      count = omega (arith, c.loop-line.invariant.count);
      whole = length-set c.loop-line.seats c.seat-seat.result _ ∙ c.loop-line.invariant.whole;
      seats =
          seats_more lines i line c.loop-line.seats c.seat-seat.result c.take.new.self within c.line-item.is c.seat-seat.ensures.value few c.loop-line.invariant.whole c.loop-line.invariant.seats
          (c.take.ensures (of_seat line.seat (take i lines)) here passes);
      found = passed_at is_in_order lines (c.loop-line.number + 1) i line _ within c.line-item.is passes c.loop-line.invariant.found;
    }
