use Rattle.std.proofs.Common.{◌≡◌, ℕ, ap, ◌∙◌, subst}
use Rattle.bus_view.specs.Views.{Knowledge}
use Rattle.busd_core.specs.Sessions.{RunsBy}
use Rattle.busd_core.proofs.stream.run.Goals as goal

pub returns-clause-runs : goal.returns-clause-runs
returns-clause-runs g c =
    let contents = g.W.Write.contents in
    let remaining = g.R.ReadBeside.remaining in
    let readings = g.R.ReadBeside.readings in
    let same : c.seat-seat.result ≡ c.args.engine.now.view.seat = c.seat-seat.ensures ∙ ap (λ (k : Knowledge). k.seat) c.view.ensures in
    subst (λ (seat : ℕ). RunsBy g.V.BusView g.G.Gate seat c.args.engine.now c.run_at.new.engine (remaining c.args.reader.now) (remaining c.run_at.new.reader) (readings c.args.reader.now) (readings c.run_at.new.reader)
    (contents c.args.writer.now) (contents c.run_at.new.writer) c.run_at.result) same c.run_at.ensures.runs
