use Rattle.std.proofs.Common.{◌≡◌, true, false, [], ap, ◌∙◌}
use Rattle.seq_bus_core.specs.declared.verdict.Verdict.{Verdict}
use Rattle.outbox_core.specs.Contents.{Relays}
use Rattle.outbox_core.specs.Deliveries.{deliveries_of}
use Rattle.message_core.specs.Said.{said}
use Rattle.router_steps.proofs.Signing.{relays, refuses}
use Rattle.router_steps.proofs.context.Context.relay.Goals as goal

pub returns-in-Ok-sign-clause-comes : goal.returns-in-Ok-sign-clause-comes
returns-in-Ok-sign-clause-comes g c goes_on fate end p =
    let now = c.args.self.now in
    let verdict = c.args.verdict.value in
    relays g.V.BusView.told g.V.BusView.registry_of g.G.Gate.passes g.V.BusView.alone (said c.args.message.now) c.args.sender goes_on fate end (deliveries_of verdict.to verdict.monitors) (Relays c.in-Ok-sign.bytes) now.world c.put_to.new.self.world c.in-Ok-sign.ensures.too_long
    (ap Relays c.in-Ok-sign.ensures.bytes) c.put_to.ensures.comes p

pub returns-in-Err-sign-clause-comes : goal.returns-in-Err-sign-clause-comes
returns-in-Err-sign-clause-comes g c goes_on fate end p =
    let now = c.args.self.now in
    let verdict = c.args.verdict.value in
    let never = λ (none : (verdict.to ≡ []) × (verdict.monitors ≡ [])). let bad : ⊥ = let e : false ≡ true = c.if-is_for_nobody.ensures.1 (ap (λ (v : Verdict). v.to) c.deref.ensures ∙ none.0, ap (λ (v : Verdict). v.monitors) c.deref.ensures ∙ none.1) in cc in bad in
    refuses g.V.BusView.told g.V.BusView.registry_of g.G.Gate.passes g.V.BusView.alone (said c.args.message.now) c.args.sender goes_on fate end c.in-Err-sign.fault verdict.to verdict.monitors now.world c.in-Err-sign.ensures.too_long never p
