use Rattle.router_laws.proofs.runs.runs_are_one.Goals as goal
use Rattle.router_laws.proofs.Agreeing.{runs_are_one}

-- src/runs.rt:9:1
pub returns : goal.returns
returns c = runs_are_one
