-- What was done so far; what is left stands with the first at the end.
use Rattle.std.proofs.Common.{reverse, length}
use Rattle.starter.proofs.Steps.{DoneSoFar}
use Rattle.starter.proofs.starter.Starter.do_all.Given as goal

abbrev pub invariant-loop-deed : goal.invariant-loop-deed
invariant-loop-deed g l =
    DoneSoFar g.Q.Programs.runs g.Q.Programs.gives g.V.BusView.told g.V.BusView.registry_of g.G.Gate.passes g.V.BusView.alone g.P.Post.puts g.P.Post.refuses g.P.Post.starts g.P.Post.takes
    (reverse l.fn.deeds.items) (reverse l.deeds.items) l.fn.self l.self

abbrev pub decreases-loop-deed : goal.decreases-loop-deed
decreases-loop-deed g l = length l.deeds.items
