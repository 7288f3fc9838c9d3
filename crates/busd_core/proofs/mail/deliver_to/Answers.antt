use Rattle.std.proofs.Common.{None, refl, ap}
use Rattle.std.proofs.lemmas.Result.{err_from_is_err_and}
use Rattle.outbox_core.specs.Contents.{said_of}
use Rattle.outbox_core.specs.declared.envelope.Envelope.{Envelope}
use Rattle.busd_core.specs.Happenings.{Carries}
use Rattle.busd_core.proofs.Letters.{for_conn, sent, sent_in_part}
use Rattle.busd_core.proofs.mail.deliver_to.Goals as goal

pub returns-in_err-actions : goal.returns-in_err-actions
returns-in_err-actions g c =
    let contents = g.W.Write.contents in
    let said = said_of c.args.content.now in
    let envelope : Envelope g.row.V-Note.Denot = record { number = c.args.conn.number; note = None; content = c.in-Ok.content } in
    let carries : Carries envelope (for_conn said c.args.conn) = record { number = refl; note = refl; said = ap said_of c.in-Ok.ensures } in
    let p = err_from_is_err_and c.from_residual.result c.from_residual.ensures.1 in
    rw (p.1, p.2) (sent_in_part g.V.BusView.told g.G.Gate.passes g.V.BusView.alone c.args.endpoint.seat c.args.endpoint.key g.V.BusView.registry_of c.args.engine.now c.dispatch.new.engine (contents c.args.writer.now) (contents c.dispatch.new.writer)
    said c.args.conn envelope carries c.if-conn-endpoint.false c.in_err-actions.field-0.0 c.in_err-actions.ensures.err)

pub returns : goal.returns
returns g c =
    let contents = g.W.Write.contents in
    let said = said_of c.args.content.now in
    let envelope : Envelope g.row.V-Note.Denot = record { number = c.args.conn.number; note = None; content = c.in-Ok.content } in
    let carries : Carries envelope (for_conn said c.args.conn) = record { number = refl; note = refl; said = ap said_of c.in-Ok.ensures } in
    rw c.give_back.ensures (sent g.V.BusView.told g.G.Gate.passes g.V.BusView.alone c.args.endpoint.seat c.args.endpoint.key g.V.BusView.registry_of c.args.engine.now c.dispatch.new.engine (contents c.args.writer.now) (contents c.dispatch.new.writer) said c.args.conn envelope carries
    c.if-conn-endpoint.false c.in_ok-actions.actions.items c.in_ok-actions.ensures.ok)
