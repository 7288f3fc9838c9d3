use Rattle.std.proofs.Common.{◌≡◌, refl, subst}
use Rattle.router_core.specs.Acts.{State}
use Rattle.router_core.specs.Deeds.{GatedCall}
use Rattle.router_core.specs.declared.gate.OpenGate.{OpenGate}
use Rattle.busd_core.specs.Sessions.{new_engine, Runs}
use Rattle.busd_core.proofs.Endings.{never_begins}
use Rattle.busd_core.proofs.stream.run_over.Goals as goal

abbrev lets_pass : OpenGate → GatedCall → OpenGate → Type 0
lets_pass before call after = after ≡ before

pub returns-in_default-clause-runs : goal.returns-in_default-clause-runs
returns-in_default-clause-runs g c =
    let gate : OpenGate = record {} in
    let knows = g.V.BusView.knows c.args.view in
    let before = new_engine knows gate in
    (gate, before, never_begins g.V.BusView.told lets_pass g.V.BusView.alone knows.seat 0 before (g.R.ReadBeside.remaining c.args.reader.now) (g.R.ReadBeside.readings c.args.reader.now) (g.W.Write.contents c.args.writer.now) (refl, refl))

pub returns-clause-runs : goal.returns-clause-runs
returns-clause-runs g c =
    let contents = g.W.Write.contents in
    let remaining = g.R.ReadBeside.remaining in
    let readings = g.R.ReadBeside.readings in
    let gate : OpenGate = record {} in (
      gate,
      c.run.new.engine,
      subst (λ (s : State OpenGate). Runs g.V.BusView.told lets_pass g.V.BusView.alone s.view.seat s c.run.new.engine (remaining c.args.reader.now) (remaining c.run.new.reader) (readings c.args.reader.now) (readings c.run.new.reader)
          (contents c.args.writer.now) (contents c.run.new.writer) c.run.result) c.in-Ok.ensures c.run.ensures.runs,
    )
