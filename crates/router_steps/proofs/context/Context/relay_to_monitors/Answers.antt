use Rattle.std.proofs.Common.{List, OnOk, ap, ◌∙◌, subst}
use Rattle.seq_bus_core.specs.declared.connection.Conn.{Conn}
use Rattle.seq_bus_core.specs.declared.verdict.Verdict.{Verdict}
use Rattle.message_core.specs.Said.{said}
use Rattle.message.specs.MessageBytes.{message_bytes}
use Rattle.outbox_core.specs.Contents.{Relays}
use Rattle.outbox_core.specs.Deliveries.{deliveries_of}
use Rattle.router_core.specs.Scripts.{Comes, putting}
use Rattle.router_core.specs.Serving.{nothing, with_sender, relaying_to}
use Rattle.router_steps.proofs.Signing.{deliveries_of_none}
use Rattle.router_steps.proofs.context.Context.relay_to_monitors.Goals as goal

pub returns-clause-comes : goal.returns-clause-comes
returns-clause-comes g c goes_on fate end p =
    let alone = ap (λ (v : Verdict). deliveries_of v.to v.monitors) c.tell_monitors_alone.ensures ∙ deliveries_of_none c.deref_mut.result.now.monitors ∙ ap (λ (v : Verdict). v.monitors) c.deref_mut.ensures.value in
    subst (λ (to : List Conn). Comes g.V.BusView.told g.V.BusView.registry_of g.G.Gate.passes g.V.BusView.alone (relaying_to (said c.args.message.now) c.args.sender to goes_on) c.args.self.now.world fate end) alone (c.relay.ensures.comes goes_on fate end p)

pub returns-clause-put : goal.returns-clause-put
returns-clause-put g c =
    let alone = ap (λ (v : Verdict). deliveries_of v.to v.monitors) c.tell_monitors_alone.ensures ∙ deliveries_of_none c.deref_mut.result.now.monitors ∙ ap (λ (v : Verdict). v.monitors) c.deref_mut.ensures.value in
    subst (λ (to : List Conn). OnOk c.relay.result (Comes g.V.BusView.told g.V.BusView.registry_of g.G.Gate.passes g.V.BusView.alone (putting to (Relays (message_bytes (with_sender (said c.args.message.now) c.args.sender))) nothing) c.args.self.now.world tt c.relay.new.self.world)) alone c.relay.ensures.put
