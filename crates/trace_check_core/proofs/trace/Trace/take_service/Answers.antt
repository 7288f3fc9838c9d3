use Rattle.std.proofs.Common.{refl, ap, sym, ◌∙◌}
use Rattle.trace_check_core.specs.Traces.{Trace, takes_service}
use Rattle.trace_check_core.proofs.HeldTraces.{held_service}
use Rattle.trace_check_core.proofs.trace.Trace.take_service.Goals as goal

pub invariant_of-self-2 : goal.invariant_of-self-2
invariant_of-self-2 c =
    held_service c.self.inside _ c.args.name c.self.invariant
    (ap (λ (t : Trace). takes_service t c.args.name) c.self.view_is ∙ sym c.if-not-takes_service.ensures)
    c.requires.ownable refl c.in_ok-push.ensures.items refl refl
