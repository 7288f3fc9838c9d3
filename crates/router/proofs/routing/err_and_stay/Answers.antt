use Rattle.std.proofs.Common.{refl}
use Rattle.router_core.specs.declared.fate.PeerFate.TheVariants.{Stays}
use Rattle.message_core.specs.Said.{said}
use Rattle.router_core.specs.Serving.{staying_open, erring_if_call}
use Rattle.router_steps.proofs.Sequels.{comes_then}
use Rattle.router.proofs.routing.err_and_stay.Goals as goal

pub returns-clause-comes : goal.returns-clause-comes
returns-clause-comes g c =
    comes_then g.V.BusView.told g.V.BusView.registry_of g.G.Gate.passes g.V.BusView.alone (λ (done : Unit {0}). staying_open) tt c.err_if_call.new.self.world Stays c.err_if_call.new.self.world (refl, refl)
    (erring_if_call (said c.args.message.now) c.args.sender c.args.error) c.args.context.now.world c.err_if_call.ensures.comes
