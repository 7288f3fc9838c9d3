use Rattle.std.proofs.Common.{map}
use Rattle.seq_bus.specs.PlainViews.{knowledge_of}
use Rattle.router_core.specs.Standing.{fresh}
use Rattle.router_laws.specs.Outputs.{IsCourse}
use Rattle.router_laws.proofs.session.run.Given as goal

abbrev pub invariant-loop-index : goal.invariant-loop-index
invariant-loop-index g l =
    IsCourse g.G.Gate.passes (record { standing = fresh l.fn.login; next_key = 0; view = knowledge_of l.fn.bus; gate = l.fn.gate }) (map (λ turn. turn.1) l.yielded) l.session.engine l.session.outlets
