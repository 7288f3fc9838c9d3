-- The steps so far.
use Rattle.starter.specs.Starting.{MakesSteps}
use Rattle.starter.specs.States.{IsIdle}
use Rattle.starter.proofs.starter.Starter.tell_all.Given as goal

abbrev pub invariant-loop : goal.invariant-loop
invariant-loop g l =
    (MakesSteps g.Q.Programs.runs g.Q.Programs.gives g.V.BusView.told g.V.BusView.registry_of g.G.Gate.passes g.V.BusView.alone g.P.Post.puts g.P.Post.refuses g.P.Post.starts g.P.Post.takes
    l.now l.fn.self l.self)
    × IsIdle l.self
