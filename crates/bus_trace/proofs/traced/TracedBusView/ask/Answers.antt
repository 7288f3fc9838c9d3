use Rattle.std.proofs.Common.{◌≡◌, ap, length, rules}
use Rattle.seq_bus_core.specs.Answers.{answer}
use Rattle.bus_view.specs.Views.{bus_seen}
use Rattle.bus_trace.specs.Recordings.{query_ended}
use Rattle.bus_trace.proofs.Told.{appended_behind, kept_so}
use Rattle.bus_trace.proofs.traced.TracedBusView.ask.Goals as goal

pub returns-in-Ok-clause-recorded : goal.returns-in-Ok-clause-recorded
returns-in-Ok-clause-recorded g c =
    let s = (bus_seen (g.V.BusView.knows c.ask.new.self)).state in
    let told = answer s c.args.query.now in
    let before : c.len-start.result ≡ length c.args.body.now.items = search rules in
    let body = appended_behind c.in-Ok.asked told c.args.body.now.items c.ask.new.body.items c.deref.result.now c.len-start.result c.deref.ensures.value before c.in-Ok.ensures.answered in
    kept_so c.self.inside.recorder c.args.self.now.recording c.keep_query.new.self _ _ (ap (λ t. t.recording) c.self.view_is)
    (λ i. query_ended (c.place-place.ensures i) (c.seat-seat.ensures i) c.args.query.now told) (c.keep_query.ensures s body)
