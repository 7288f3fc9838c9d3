use Rattle.router_laws.proofs.streams.streams_agree.Goals as goal
use Rattle.router_laws.proofs.Ending.{streams_agree}

-- src/streams.rt:26:1
pub returns : goal.returns
returns g c = streams_agree g.V.BusView g.G.Gate g.H.Gate
