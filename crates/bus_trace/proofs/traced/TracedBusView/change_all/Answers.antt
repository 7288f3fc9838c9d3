use Rattle.std.proofs.Common.{◌≡◌, ◌+◌, ◌-◌, ap, arith, length, map}
use Rattle.trace_lines.specs.Texts.{change_text}
use Rattle.bus_trace.specs.Recordings.{changes_ended}
use Rattle.bus_trace.proofs.Changes.{batch_places}
use Rattle.bus_trace.proofs.Told.{kept_so}
use Rattle.bus_trace.proofs.traced.TracedBusView.change_all.Goals as goal

pub overflow_sub-others : goal.overflow_sub-others
overflow_sub-others g c =
    let places = batch_places _ _ _ _ _ c.in-Ok.ensures.batch c.in-Ok.ensures.made in
    omega (arith, c.len.ensures, places.0)

pub overflow_sub-place : goal.overflow_sub-place
overflow_sub-place g c =
    let places = batch_places _ _ _ _ _ c.in-Ok.ensures.batch c.in-Ok.ensures.made in
    omega (arith, c.len.ensures, c.last.ensures, places.1, places.2)

pub overflow_sub-number : goal.overflow_sub-number
overflow_sub-number g c =
    let places = batch_places _ _ _ _ _ c.in-Ok.ensures.batch c.in-Ok.ensures.made in
    omega (arith, c.len.ensures, c.made.ensures, places.1, places.3)

pub returns-in-Ok-clause-recorded : goal.returns-in-Ok-clause-recorded
returns-in-Ok-clause-recorded g c =
    let k = g.V.BusView.knows c.change_all.new.self in
    let changes = c.args.changes.items in
    let places = batch_places _ _ _ _ _ c.in-Ok.ensures.batch c.in-Ok.ensures.made in
    let place : c.last.result - (c.len.result - 1) ≡ k.last + 1 - length changes = omega (arith, c.len.ensures, c.last.ensures, places.0, places.1, places.2) in
    let number : c.made.result - (c.len.result - 1) ≡ k.made + 1 - length changes = omega (arith, c.len.ensures, c.made.ensures, places.0, places.1, places.3) in
    let texts = map change_text c.deref.result.now in
    kept_so c.self.inside.recorder c.args.self.now.recording c.keep_changes.new.self _ _ (ap (λ t. t.recording) c.self.view_is)
    (λ i. changes_ended (place i) (c.seat-seat.ensures i) (number i) (map change_text (c.deref.ensures.value i)) (c.deref-in-Ok.ensures.value i))
    (c.keep_changes.ensures texts c.words_of_all-words.ensures)
