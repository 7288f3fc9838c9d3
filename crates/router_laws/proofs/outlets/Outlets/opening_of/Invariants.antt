use Rattle.std.proofs.Common.{◌≡◌, map, reverse, take}
use Rattle.router_core.specs.OneThread.{opening_of as opening_in}
use Rattle.router_laws.proofs.outlets.Outlets.opening_of.Given as goal

abbrev pub invariant-loop-place : goal.invariant-loop-place
invariant-loop-place l = l.opening ≡ opening_in l.key (reverse (map (λ outlet. outlet.key) (take l.place l.outlet-items)))
