use Rattle.std.proofs.Common.{Some, refl, sym, subst}
use Rattle.message_core.specs.Said.{said}
use Rattle.router_core.specs.Standing.{Peer, next_serial}
use Rattle.router_steps.specs.declared.first.FirstIncoming.{FirstIncoming}
use Rattle.router_steps.specs.Reading.{HasFirst}
use Rattle.router_steps.specs.Refusing.{AreRefusals}
use Rattle.router_steps.proofs.Nexts.{reads_waiting, reads_faulty, reads_other, next_unnamed}
use Rattle.router_steps.proofs.context.Context.hello_or_close.Goals as goal

pub returns-in-Waits-clause-next : goal.returns-in-Waits-clause-next
returns-in-Waits-clause-next g c =
    let told = g.V.BusView.told in
    let registry_of = g.V.BusView.registry_of in
    let passes = g.G.Gate.passes in
    let alone = g.V.BusView.alone in
    let p = c.args.peer.now in
    let q = c.take_first.new.self in
    let w = c.args.self.now.world in
    let unnamed = c.requires.unnamed in
    let incoming = subst (λ (f : FirstIncoming). HasFirst f p q) c.in-Waits.is c.in_ok-take_first.ensures.ok in
    λ s is. next_unnamed told registry_of passes alone c.args.key p w w s q (Some p) c.args.privileged refl unnamed
    (reads_waiting told registry_of passes alone c.args.key p w w s q incoming.1 is incoming.0 refl)

pub returns-in-Other-clause-next : goal.returns-in-Other-clause-next
returns-in-Other-clause-next g c =
    let told = g.V.BusView.told in
    let registry_of = g.V.BusView.registry_of in
    let passes = g.G.Gate.passes in
    let alone = g.V.BusView.alone in
    let p = c.args.peer.now in
    let r = c.take_first.new.self in
    let q = c.close_peer.new.peer in
    let w = c.args.self.now.world in
    let v = c.close_peer.new.self.world in
    let unnamed = c.requires.unnamed in
    let incoming = subst (λ (f : FirstIncoming). HasFirst f p r) c.in-Other.is c.in_ok-take_first.ensures.ok in
    λ s is. next_unnamed told registry_of passes alone c.args.key p w v s q (Some p) c.args.privileged refl unnamed
    (reads_other told registry_of passes alone c.args.key p w v s c.in-Other._message r q c.args.privileged incoming.0 incoming.1 incoming.2 unnamed c.close_peer.ensures.comes)

pub returns-in-Faulty-clause-next : goal.returns-in-Faulty-clause-next
returns-in-Faulty-clause-next g c =
    let told = g.V.BusView.told in
    let registry_of = g.V.BusView.registry_of in
    let passes = g.G.Gate.passes in
    let alone = g.V.BusView.alone in
    let p = c.args.peer.now in
    let r = c.take_first.new.self in
    let q = c.close_peer-in-Faulty.new.peer in
    let w = c.args.self.now.world in
    let v = c.close_peer-in-Faulty.new.self.world in
    let unnamed = c.requires.unnamed in
    let incoming = subst (λ (f : FirstIncoming). HasFirst f p r) c.in-Faulty.is c.in_ok-take_first.ensures.ok in
    λ s is. next_unnamed told registry_of passes alone c.args.key p w v s q (Some p) c.args.privileged refl unnamed
    (reads_faulty told registry_of passes alone c.args.key p w v s c.in-Faulty.fault r q incoming.0 incoming.1 c.close_peer-in-Faulty.ensures.comes)

pub returns-in-Hello-clause-next : goal.returns-in-Hello-clause-next
returns-in-Hello-clause-next g c =
    let p = c.args.peer.now in
    let q = c.take_first.new.self in
    let m = said c.in-Hello.hello in
    let first = subst (λ (f : FirstIncoming). HasFirst f p q) c.in-Hello.is c.in_ok-take_first.ensures.ok in
    let errors = subst (λ (x : Peer). AreRefusals m (next_serial x.serial) c.in-Hello.errors) (sym first.1) first.3 in
    (p, q, refl, refl, record { stage = c.requires.unnamed; bytes = first.0; rest = first.1; is_hello = first.2; errors = errors }, refl)
