use Rattle.std.proofs.Common.{sym, ap, subst}
use Rattle.outbox_core.specs.Contents.{said_of, own_of}
use Rattle.router_core.specs.Events.{writing}
use Rattle.router_core.specs.Scripts.{Comes}
use Rattle.router_core.specs.Standing.{Peer}
use Rattle.router_steps.proofs.Delivering.{tells}
use Rattle.router_steps.proofs.context.Context.write_mail.Goals as goal

pub returns-in-Own-clause-comes : goal.returns-in-Own-clause-comes
returns-in-Own-clause-comes g c =
    let told = g.V.BusView.told in
    let registry_of = g.V.BusView.registry_of in
    let alone = g.V.BusView.alone in
    let said = said_of c.args.content.now in
    subst (λ (q : Peer). Comes told g.V.BusView.registry_of g.G.Gate.passes alone (writing c.args.key said c.args.peer.now) c.args.self.now.world q c.send.new.self.world) (sym c.count.ensures)
    (tells told g.V.BusView.registry_of g.G.Gate.passes alone c.args.key c.args.peer.now c.args.bytes c.args.self.now.world c.send.new.self.world said (own_of c.in-Own.field-0) (ap said_of c.in-Own.is) c.requires.spelled c.send.ensures.does)
