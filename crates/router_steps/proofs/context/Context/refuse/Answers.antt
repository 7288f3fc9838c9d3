use Rattle.std.proofs.Common.{List, [], sym, ap, subst, ◌∙◌}
use Rattle.message.specs.FactsOf.{facts_of}
use Rattle.outbox_core.specs.Contents.{Tells, own_of, bus_message}
use Rattle.outbox_core.specs.Deliveries.{deliveries_of}
use Rattle.seq_bus_core.specs.declared.connection.Conn.{Conn}
use Rattle.seq_bus_core.specs.declared.verdict.Verdict.{Verdict}
use Rattle.router_core.specs.Answers.{Heard}
use Rattle.router_core.specs.Events.{refusing_routed}
use Rattle.router_core.specs.Scripts.{Routing, Comes, putting}
use Rattle.router_core.specs.Serving.{nothing}
use Rattle.router_core.specs.Standing.{Peer, next_serial}
use Rattle.router_steps.proofs.Hellos.{refused}
use Rattle.router_steps.proofs.context.Context.refuse.Goals as goal

pub returns-clause-comes : goal.returns-clause-comes
returns-clause-comes g c =
    let own = own_of c.args.own in
    let p = c.args.peer.now in
    let w = c.args.self.now.world in
    let asked = c.ask_monitors-verdict in
    let r = asked.new.self.world in
    let s = c.send.new.self.world in
    let n = c.put_to.new.self.world in
    let heard = asked.ensures.routes in
    let shown = asked.result.value.monitors in
    let put = subst (λ (to : List Conn). Comes g.V.BusView.told g.V.BusView.registry_of g.G.Gate.passes g.V.BusView.alone (putting to (Tells own) nothing) s tt n) (ap (λ (v : Verdict). deliveries_of v.to v.monitors) c.tell_monitors_alone.ensures ∙ ap (λ (v : Verdict). deliveries_of [] v.monitors) c.deref_mut.ensures.value) c.put_to.ensures.comes in
    let does = c.send.ensures.does (bus_message (next_serial p.serial) own) c.requires.written in
    subst (λ (q : Peer). Comes g.V.BusView.told g.V.BusView.registry_of g.G.Gate.passes g.V.BusView.alone (Routing 0 (facts_of (bus_message 1 own)) (λ (h : Heard Verdict). refusing_routed c.args.key own p h)) w q n) (sym c.count.ensures)
    (refused g.V.BusView.told g.V.BusView.registry_of g.G.Gate.passes g.V.BusView.alone c.args.key own p w r s n heard.0 shown heard.1 heard.2 does put)
