use Rattle.router_laws.proofs.runs.runs_agree.Goals as goal
use Rattle.router_laws.proofs.Agreeing.{runs_agree}

-- src/runs.rt:16:1
pub returns : goal.returns
returns g c = runs_agree g.G.Gate.passes g.H.Gate.passes
