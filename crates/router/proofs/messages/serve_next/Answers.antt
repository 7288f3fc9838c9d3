use Rattle.std.proofs.Common.{◌≡◌, ◌∙◌, refl, sym, subst, []}
use Rattle.router_core.specs.Standing.{Peer}
use Rattle.router_steps.specs.declared.incoming.Incoming.{Incoming}
use Rattle.router_steps.specs.Reading.{HasIncoming}
use Rattle.router_steps.proofs.Nexts.{reads_waiting, reads_faulty, reads_named, reads_watching}
use Rattle.router.proofs.messages.serve_next.Goals as goal

pub returns-in-Waits-clause-comes : goal.returns-in-Waits-clause-comes
returns-in-Waits-clause-comes g c s there =
    let p : Peer = c.args.peer.now in
    let r : Peer = c.take_next.new.self in
    let w = c.args.context.now.world in
    let incoming = subst (λ (f : Incoming). HasIncoming f p.unread r.unread) c.in-Waits.is c.in_ok-take_next.ensures.incoming in
    let same : r ≡ p = c.in_ok-take_next.ensures.rest ∙ (λ i. record p { unread = incoming.1 i }) in
    reads_waiting g.V.BusView.told g.V.BusView.registry_of g.G.Gate.passes g.V.BusView.alone c.args.key p w w s r same there incoming.0 refl

pub returns-in-Faulty-clause-comes : goal.returns-in-Faulty-clause-comes
returns-in-Faulty-clause-comes g c s there =
    let p : Peer = c.args.peer.now in
    let r : Peer = c.take_next.new.self in
    let incoming = subst (λ (f : Incoming). HasIncoming f p.unread r.unread) c.in-Faulty.is c.in_ok-take_next.ensures.incoming in
    let same : r ≡ record p { unread = [] } = c.in_ok-take_next.ensures.rest ∙ (λ i. record p { unread = incoming.1 i }) in
    reads_faulty g.V.BusView.told g.V.BusView.registry_of g.G.Gate.passes g.V.BusView.alone c.args.key p c.args.context.now.world c.close_peer.new.self.world s c.in-Faulty.fault r c.close_peer.new.peer incoming.0 same c.close_peer.ensures.comes

pub returns-then-watches-clause-comes : goal.returns-then-watches-clause-comes
returns-then-watches-clause-comes g c s there =
    let p : Peer = c.args.peer.now in
    let r : Peer = c.take_next.new.self in
    let incoming = subst (λ (f : Incoming). HasIncoming f p.unread r.unread) c.in-Whole.is c.in_ok-take_next.ensures.incoming in
    reads_watching g.V.BusView.told g.V.BusView.registry_of g.G.Gate.passes g.V.BusView.alone c.args.key p c.args.context.now.world c.close_peer-then-watches.new.self.world s c.in-Whole.message r c.close_peer-then-watches.new.peer c.args.conn
    incoming c.in_ok-take_next.ensures.rest c.requires.named (sym c.watches.ensures ∙ c.if-watches.true) c.close_peer-then-watches.ensures.comes

pub returns-else-watches-clause-comes : goal.returns-else-watches-clause-comes
returns-else-watches-clause-comes g c s there =
    let p : Peer = c.args.peer.now in
    let r : Peer = c.take_next.new.self in
    let incoming = subst (λ (f : Incoming). HasIncoming f p.unread r.unread) c.in-Whole.is c.in_ok-take_next.ensures.incoming in
    reads_named g.V.BusView.told g.V.BusView.registry_of g.G.Gate.passes g.V.BusView.alone c.args.key p c.args.context.now.world c.settle.new.self.world s c.in-Whole.message r c.settle.new.peer c.args.conn c.serve-fate.result c.serve-fate.new.context.world
    incoming c.in_ok-take_next.ensures.rest c.requires.named (sym c.watches.ensures ∙ c.if-watches.false) c.serve-fate.ensures.comes c.settle.ensures.comes
