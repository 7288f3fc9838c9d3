-- What happened to the host so far.
use Rattle.routers.specs.Serving.{WorksOn}
use Rattle.routers.proofs.router_loop.Router.run.Given as goal

abbrev pub invariant-loop : goal.invariant-loop
invariant-loop g l = WorksOn g.V.BusView.told g.V.BusView.registry_of g.G.Gate.passes g.V.BusView.alone g.P.Post.puts g.P.Post.refuses g.P.Post.starts g.P.Post.takes g.E.Source.asks g.S.Sink.remaining g.S.Sink.taken l.fn.self l.self
