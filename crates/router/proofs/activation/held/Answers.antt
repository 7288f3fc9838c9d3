use Rattle.std.proofs.Common.{List, ℕ, ◌∷◌, [], refl, sym, subst}
use Rattle.message_core.specs.Said.{said}
use Rattle.seq_bus_core.specs.declared.outcome.Reply.{Reply}
use Rattle.outbox_core.specs.Contents.{Relays}
use Rattle.outbox_core.specs.Deliveries.{deliveries_of}
use Rattle.router_core.specs.Addressed.{Addressed}
use Rattle.router_core.specs.declared.fate.PeerFate.TheVariants.{Stays}
use Rattle.router_core.specs.Deeds.{Puts}
use Rattle.router_core.specs.Scripts.{Does, Comes}
use Rattle.router_core.specs.Serving.{after_hold_by, running}
use Rattle.router.proofs.Answering.{stays}
use Rattle.router.proofs.activation.held.Goals as goal

pub returns-in-Pass-clause-comes : goal.returns-in-Pass-clause-comes
returns-in-Pass-clause-comes g c =
    let told = g.V.BusView.told in
    let registry_of = g.V.BusView.registry_of in
    let passes = g.G.Gate.passes in
    let alone = g.V.BusView.alone in
    let m = said c.args.message.now in
    let w = c.args.context.now.world in
    let v = c.put.new.self.world in
    let to_one = subst (λ (a : Addressed). Does told registry_of alone (Puts (deliveries_of a.to a.monitors) (Relays c.args.passed)) w v) c.one.ensures c.put.ensures.does in
    let puts = subst (λ (bytes : List ℕ). Does told registry_of alone (Puts (c.in-Pass.owner ∷ []) (Relays bytes)) w v) c.requires.bytes to_one in
    subst (λ (r : Reply). Comes told registry_of passes alone (after_hold_by m c.args.sender c.args.name.value c.args.outcome r) w Stays v) (sym c.in-Pass.is) (v, puts, (refl, refl))

pub returns-in-Held-clause-comes : goal.returns-in-Held-clause-comes
returns-in-Held-clause-comes g c =
    let told = g.V.BusView.told in
    let registry_of = g.V.BusView.registry_of in
    let passes = g.G.Gate.passes in
    let alone = g.V.BusView.alone in
    let m = said c.args.message.now in
    let w = c.args.context.now.world in
    let v = c.run.new.self.world in
    subst (λ (r : Reply). Comes told registry_of passes alone (after_hold_by m c.args.sender c.args.name.value c.args.outcome r) w Stays v) (sym c.in-Held.is)
    (stays told registry_of passes alone (running c.args.name.value c.args.outcome.start) w v c.run.ensures.comes)
