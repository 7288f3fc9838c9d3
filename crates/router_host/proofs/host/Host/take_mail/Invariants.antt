-- What was done so far.
use Rattle.std.proofs.Common.{◌≡◌, None}
use Rattle.router_host.specs.Doing.{Does}
use Rattle.router_host.proofs.host.Host.take_mail.Given as goal

abbrev pub invariant-loop : goal.invariant-loop
invariant-loop g l =
    (Does g.V.BusView.told g.V.BusView.registry_of g.G.Gate.passes g.V.BusView.alone g.P.Post.puts g.P.Post.refuses g.P.Post.starts g.P.Post.takes l.fn.self l.self)
    × (l.self.kept ≡ None)
