use Rattle.std.proofs.Common.{List, [], ◌∷◌, refl, sym, ◌∙◌, subst, map-id}
use Rattle.std.proofs.lemmas.Iterator.Consumers.{YieldsList-from_first, YieldsList-end}
use Rattle.seq_bus_core.specs.declared.connection.Conn.{Conn}
use Rattle.outbox_core.specs.Deliveries.{deliveries_of}
use Rattle.router_host_core.specs.Carrying.{Each, IsPut}
use Rattle.router_host_core.proofs.Steps.{each_then}
use Rattle.router_host_core.proofs.carrier.Carrier.put.Goals as goal

pub loop-conn-preserved : goal.loop-conn-preserved
loop-conn-preserved g c = (
  each_then (IsPut g.P.Post.puts g.P.Post.refuses c.args.note.now c.args.content.now) c.loop-conn.yielded (c.in-Some.conn ∷ []) c.args.self.now c.loop-conn.self c.put_to.new.self c.loop-conn.invariant.0
      (c.put_to.new.self, c.put_to.ensures.done, refl),
  c.put_to.ensures.registry ∙ c.loop-conn.invariant.1,
)

pub returns-clause-done : goal.returns-clause-done
returns-clause-done g c =
    let all : List Conn = deliveries_of c.args.to.now c.args.monitors.now in
    let road = YieldsList-from_first (λ (conn : Conn). conn) (λ (left : List Conn). left) all (c.into_iter-conn-iterator.ensures.into_iter_gives ∙ c.new-conn-items.ensures) in
    let end = YieldsList-end road c.loop-conn.yielded _ c.loop-conn.yielded_by c.next.result c.next.new.self c.in-None.is c.next.ensures.steps in
    subst (λ (to : List Conn). Each (IsPut g.P.Post.puts g.P.Post.refuses c.args.note.now c.args.content.now) to c.args.self.now c.loop-conn.self) (sym (map-id c.loop-conn.yielded) ∙ end.0) c.loop-conn.invariant.0
