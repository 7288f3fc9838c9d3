use Rattle.router_laws.proofs.cuts.recut_runs_agree.Goals as goal
use Rattle.router_laws.proofs.Agreeing.{alike_runs_agree}

-- src/cuts.rt:20:1
pub returns : goal.returns
returns g c = alike_runs_agree g.G.Gate.passes g.H.Gate.passes
