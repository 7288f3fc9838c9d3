-- It was put to those that were taken so far.
use Rattle.std.proofs.Common.{◌≡◌}
use Rattle.router_host_core.specs.Carrying.{Each, IsPut}
use Rattle.router_host_core.proofs.carrier.Carrier.put.Given as goal

abbrev pub invariant-loop-conn : goal.invariant-loop-conn
invariant-loop-conn g l = Each (IsPut g.P.Post.puts g.P.Post.refuses l.note l.content) l.yielded l.fn.self l.self × (g.P.Post.registry l.self.post ≡ g.P.Post.registry l.fn.self.post)
