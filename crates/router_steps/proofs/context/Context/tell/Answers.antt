use Rattle.std.proofs.Common.{List, [], ◌∷◌, ap, ◌∙◌, subst}
use Rattle.seq_bus_core.specs.declared.connection.Conn.{Conn}
use Rattle.seq_bus_core.specs.declared.verdict.Verdict.{Verdict}
use Rattle.outbox_core.specs.Contents.{Tells, own_of}
use Rattle.outbox_core.specs.Deliveries.{deliveries_of}
use Rattle.router_core.specs.Scripts.{putting, Comes}
use Rattle.router_core.specs.Serving.{nothing}
use Rattle.router_steps.proofs.context.Context.tell.Goals as goal

pub returns-clause-comes : goal.returns-clause-comes
returns-clause-comes g c =
    let asked = c.ask_monitors-verdict in
    let shown = subst
    (λ (to : List Conn). Comes g.V.BusView.told g.V.BusView.registry_of g.G.Gate.passes g.V.BusView.alone (putting to (Tells (own_of c.args.own)) nothing) asked.new.self.world tt c.put_to.new.self.world)
    (ap (λ (v : Verdict). deliveries_of v.to v.monitors) c.set_recipient.ensures ∙ ap (λ (v : Verdict). deliveries_of (c.args.conn ∷ []) v.monitors) c.deref_mut.ensures.value ∙ ap (λ (shown : List Conn). deliveries_of (c.args.conn ∷ []) shown) asked.ensures.routes.2) c.put_to.ensures.comes in
    (asked.ensures.routes.0, asked.new.self.world, asked.ensures.routes.1, shown)
