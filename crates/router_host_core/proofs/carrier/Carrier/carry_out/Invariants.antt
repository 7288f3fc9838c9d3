-- What was done so far; those that are left stand with the first at the end.
use Rattle.std.proofs.Common.{◌≡◌, reverse, length}
use Rattle.std.specs.List.{AllByRecursion}
use Rattle.router_core.specs.Deeds.{CarriesOwn}
use Rattle.router_host_core.specs.Carrying.{IsCarriedOut}
use Rattle.router_host_core.proofs.Steps.{SoFar}
use Rattle.router_host_core.proofs.carrier.Carrier.carry_out.Given as goal

abbrev pub invariant-loop-action : goal.invariant-loop-action
invariant-loop-action g l =
    SoFar (IsCarriedOut g.P.Post.puts g.P.Post.refuses g.P.Post.starts) (reverse l.actions.items) (reverse l.fn.actions.items) l.self l.fn.self
    × (AllByRecursion (CarriesOwn g.V.BusView.registry_of (g.P.Post.registry l.fn.self.post)) (reverse l.actions.items))
    × (g.P.Post.registry l.self.post ≡ g.P.Post.registry l.fn.self.post)

abbrev pub decreases-loop-action : goal.decreases-loop-action
decreases-loop-action g l = length l.actions.items
