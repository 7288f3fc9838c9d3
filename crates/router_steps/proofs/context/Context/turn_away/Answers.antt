use Rattle.message_core.specs.Said.{said}
use Rattle.seq_bus_core.specs.declared.error_kind.ErrorKind.TheVariants as error
use Rattle.router_core.specs.declared.cause.CloseCause.TheVariants.{LimitsExceeded}
use Rattle.router_core.specs.Events.{closing, refusing_hello}
use Rattle.router_core.specs.Standing.{Peer}
use Rattle.router_steps.proofs.Sequels.{comes_then}
use Rattle.router_steps.proofs.context.Context.turn_away.Goals as goal

pub returns : goal.returns
returns g c =
    comes_then g.V.BusView.told g.V.BusView.registry_of g.G.Gate.passes g.V.BusView.alone (λ (q : Peer). closing c.args.key LimitsExceeded q) c.refuse_with.new.peer c.refuse_with.new.self.world c.close_peer.new.peer c.close_peer.new.self.world c.close_peer.ensures.comes
    (refusing_hello c.args.key (said c.args.hello.now) error.LimitsExceeded c.args.peer.now) c.args.self.now.world c.refuse_with.ensures.comes
