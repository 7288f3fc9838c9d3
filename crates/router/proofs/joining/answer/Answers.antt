use Rattle.std.proofs.Common.{List, length, refl, sym, ap, subst, arith}
use Rattle.message_core.specs.Said.{said}
use Rattle.seq_bus_core.specs.declared.ticket.SettledTicket.{SettledTicket}
use Rattle.router_core.specs.Scripts.{Comes}
use Rattle.router_core.specs.Serving.{releasing_all}
use Rattle.router_steps.specs.Carrying.{answer_of}
use Rattle.router.proofs.Answering.{made_still, tells_change}
use Rattle.router.proofs.joining.answer.Goals as goal

pub announce-requires : goal.announce-requires
announce-requires g c = omega (arith, ap length c.requires.alone.signals)

pub returns-in_default : goal.returns-in_default
returns-in_default g c =
    let told = g.V.BusView.told in
    let registry_of = g.V.BusView.registry_of in
    let passes = g.G.Gate.passes in
    let alone = g.V.BusView.alone in
    let m = said c.args.joint.now.message in
    let caller = c.args.joint.now.caller in
    let o = c.args.outcome in
    let w = c.args.context.now.world in
    let v = c.answer_with.new.self.world in
    let released = subst (λ (tickets : List SettledTicket). Comes told registry_of passes alone (releasing_all caller tickets) v tt v) (sym c.requires.alone.tickets) (refl, refl) in
    let tells = tells_change told registry_of passes alone m caller o (answer_of c.answer_told.result) w c.announce.new.self.world v v c.announce.ensures.announces c.answer_told.ensures c.answer_with.ensures.comes released in
    record {
      comes = made_still told registry_of passes alone m caller o o.reply w v c.in_default.not-Gone tells;
      room = omega (arith, ap length c.requires.alone.signals, c.announce.ensures.room, c.answer_with.ensures.room);
      spare_verdicts = omega (arith, c.announce.ensures.spare_verdicts, c.answer_with.ensures.spare_verdicts);
    }
