use Rattle.std.proofs.Common.{◌≡◌, None, Some, sym, ap, ◌∙◌}
use Rattle.std.proofs.lemmas.Result.{err_from_is_err_and}
use Rattle.busd_core.specs.Happenings.{closed_by}
use Rattle.busd_core.proofs.Courses.{carried_out, closes, cut_short}
use Rattle.busd_core.proofs.stream.carry_out.Goals as goal

pub returns-in_err-actions : goal.returns-in_err-actions
returns-in_err-actions g c =
    let contents = g.W.Write.contents in
    let p = err_from_is_err_and c.from_residual.result c.from_residual.ensures.1 in
    rw (p.1, p.2) (cut_short g.V.BusView.told g.G.Gate.passes g.V.BusView.alone c.args.endpoint.seat c.args.endpoint.key g.V.BusView.registry_of c.args.engine.now c.dispatch.new.engine c.args.event (contents c.args.writer.now)
    (contents c.dispatch.new.writer) c.in_err-actions.field-0.0 c.in_err-actions.ensures.err)

pub returns-in-Some : goal.returns-in-Some
returns-in-Some g c =
    let contents = g.W.Write.contents in
    let actions = c.in_ok-actions.actions.items in
    let is : closed_by c.args.endpoint.key actions ≡ Some c.in-Some.cause = ap (closed_by c.args.endpoint.key) (sym c.deref.ensures.value) ∙ sym c.in-Some.ensures in
    closes g.V.BusView.told g.G.Gate.passes g.V.BusView.alone c.args.endpoint.seat c.args.endpoint.key g.V.BusView.registry_of c.args.engine.now c.dispatch.new.engine c.args.event actions c.in-Some.cause (contents c.args.writer.now)
    (contents c.dispatch.new.writer) c.in_ok-actions.ensures.ok is

pub returns : goal.returns
returns g c =
    let contents = g.W.Write.contents in
    let actions = c.in_ok-actions.actions.items in
    let stays : closed_by c.args.endpoint.key actions ≡ None = ap (closed_by c.args.endpoint.key) (sym c.deref.ensures.value) ∙ sym c.in_default.ensures in
    let rest = rw c.deref-2.ensures.value at c.deliver_all-delivered.ensures in
    rw c.give_back.ensures (carried_out g.V.BusView.told g.G.Gate.passes g.V.BusView.alone c.args.endpoint.seat c.args.endpoint.key g.V.BusView.registry_of c.args.engine.now c.dispatch.new.engine c.deliver_all-delivered.new.engine c.args.event actions (contents c.args.writer.now)
    (contents c.dispatch.new.writer) (contents c.deliver_all-delivered.new.writer) c.deliver_all-delivered.result c.in_ok-actions.ensures.ok stays rest)
