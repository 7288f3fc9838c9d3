use Rattle.std.proofs.Common.{◌≡◌, List, ◌∷◌, ◌++◌, Ok, sym, ap, ◌∙◌, subst, append-nil}
use Rattle.std.proofs.lemmas.Result.{err_from_is_err_and}
use Rattle.seq_bus_core.specs.declared.connection.Conn.{Conn}
use Rattle.outbox_core.specs.Contents.{said_of}
use Rattle.outbox_core.specs.Deliveries.{deliveries_of}
use Rattle.busd_core.specs.Happenings.{mail_to, mail_to_all}
use Rattle.busd_core.specs.Parts.{Delivers}
use Rattle.busd_core.proofs.Each.{given_first}
use Rattle.busd_core.proofs.Mailing.{given_more, given_stops}
use Rattle.busd_core.proofs.mail.deliver.Goals as goal

pub returns-in_err-deliver_to : goal.returns-in_err-deliver_to
returns-in_err-deliver_to g c =
    let contents = g.W.Write.contents in
    let given : List Conn = c.loop-conn.yielded in
    let rest : List Conn = c.loop-conn.conn-iterator in
    let left : List Conn = c.next.new.self in
    let all : List Conn = deliveries_of c.args.to.now c.args.monitors.now in
    let first : all ≡ given ++ rest = sym (c.into_iter-conn-iterator.ensures.into_iter_gives ∙ c.new-conn-items.ensures) ∙ given_first given _ rest c.loop-conn.yielded_by in
    let is : all ≡ given ++ c.in-Some.conn ∷ left = first ∙ ap (λ (xs : List Conn). given ++ xs) c.in-Some.ensures.steps in
    let p = err_from_is_err_and c.from_residual.result c.from_residual.ensures.1 in
    rw (p.1, p.2) (given_stops g.V.BusView.told g.G.Gate.passes g.V.BusView.alone c.args.endpoint.seat c.args.endpoint.key (mail_to c.args.endpoint.seat (said_of c.args.content.now)) given c.in-Some.conn left all is
    c.args.engine.now c.loop-conn.engine c.deliver_to.new.engine (contents c.args.writer.now) (contents c.loop-conn.writer) (contents c.deliver_to.new.writer) c.in_err-deliver_to.field-0.0 c.loop-conn.invariant c.in_err-deliver_to.ensures)

pub loop-conn-preserved : goal.loop-conn-preserved
loop-conn-preserved g c =
    let contents = g.W.Write.contents in
    given_more g.V.BusView.told g.G.Gate.passes g.V.BusView.alone c.args.endpoint.seat c.args.endpoint.key (mail_to c.args.endpoint.seat (said_of c.args.content.now)) c.loop-conn.yielded c.in-Some.conn
    c.args.engine.now c.loop-conn.engine c.deliver_to.new.engine (contents c.args.writer.now) (contents c.loop-conn.writer) (contents c.deliver_to.new.writer) c.loop-conn.invariant c.in_ok-deliver_to.ensures

pub returns : goal.returns
returns g c =
    let contents = g.W.Write.contents in
    let given : List Conn = c.loop-conn.yielded in
    let all : List Conn = deliveries_of c.args.to.now c.args.monitors.now in
    let first : all ≡ given ++ c.loop-conn.conn-iterator = sym (c.into_iter-conn-iterator.ensures.into_iter_gives ∙ c.new-conn-items.ensures) ∙ given_first given _ c.loop-conn.conn-iterator c.loop-conn.yielded_by in
    let is : given ≡ all = sym (first ∙ ap (λ (xs : List Conn). given ++ xs) c.in-None.ensures.steps.0 ∙ append-nil given) in
    subst (λ (to : List Conn). Delivers g.V.BusView.told g.G.Gate.passes g.V.BusView.alone c.args.endpoint.seat c.args.endpoint.key c.args.engine.now (mail_to_all c.args.endpoint.seat (said_of c.args.content.now) to) (contents c.args.writer.now) (contents c.loop-conn.writer) c.loop-conn.engine (Ok tt)) is c.loop-conn.invariant
