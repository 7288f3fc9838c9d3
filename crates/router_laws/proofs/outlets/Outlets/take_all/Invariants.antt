use Rattle.std.proofs.Common.{take}
use Rattle.router_laws.specs.Outputs.{Adds, bytes_by_all}
use Rattle.router_laws.proofs.outlets.Outlets.take_all.Given as goal

abbrev pub invariant-loop-action : goal.invariant-loop-action
invariant-loop-action l = Adds l.initial.self (λ opening. bytes_by_all opening l.initial.self.keys (take l.action-index l.actions)) l.self
