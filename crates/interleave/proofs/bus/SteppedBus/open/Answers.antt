use Rattle.std.proofs.Common.{sym, subst}
use Rattle.owner_queues.specs.declared.request.Profile.TheVariants.{Two}
use Rattle.activation.specs.Holdings.{Calls, IsHolding}
use Rattle.interleave.specs.Stepping.{whole_of}
use Rattle.interleave.proofs.Stepping.{opened_holding}
use Rattle.interleave.proofs.bus.SteppedBus.open.Goals as goal

pub invariant_of-result : goal.invariant_of-result
invariant_of-result c =
    let registry = c.in_ok-registry.registry in
    subst (λ (calls : Calls). IsHolding (whole_of registry calls) calls) (sym c.in_ok-calls.ensures) (opened_holding registry Two c.args.routers c.args.services.now c.in_ok-registry.ensures)
