use Rattle.std.proofs.Common.{Result, sym, subst}
use Rattle.message_core.specs.Said.{said}
use Rattle.seq_bus_core.specs.declared.error_kind.ErrorKind.{ErrorKind}
use Rattle.seq_bus_core.specs.declared.outcome.Reply.{Reply}
use Rattle.outbox_core.specs.Contents.{Carried}
use Rattle.router_core.specs.declared.fate.PeerFate.TheVariants.{Stays}
use Rattle.router_core.specs.Scripts.{Comes}
use Rattle.router_core.specs.Serving.{answering_with, running, after_start_by}
use Rattle.router.proofs.Answering.{stays}
use Rattle.router.proofs.Waits.{start_still}
use Rattle.router.proofs.starting.started.Goals as goal

pub returns-in-Held-clause-comes : goal.returns-in-Held-clause-comes
returns-in-Held-clause-comes g c =
    let told = g.V.BusView.told in
    let registry_of = g.V.BusView.registry_of in
    let passes = g.G.Gate.passes in
    let alone = g.V.BusView.alone in
    let m = said c.args.call.now in
    let w = c.args.context.now.world in
    let v = c.run.new.self.world in
    subst (λ (r : Reply). Comes told registry_of passes alone (after_start_by m c.args.caller c.args.name.value c.args.outcome r) w Stays v) (sym c.in-Held.is)
    (stays told registry_of passes alone (running c.args.name.value c.args.outcome.start) w v c.run.ensures.comes)

pub returns-in_default : goal.returns-in_default
returns-in_default g c =
    let told = g.V.BusView.told in
    let registry_of = g.V.BusView.registry_of in
    let passes = g.G.Gate.passes in
    let alone = g.V.BusView.alone in
    let m = said c.args.call.now in
    let w = c.args.context.now.world in
    let v = c.answer_with.new.self.world in
    let answers = subst (λ (a : Result Carried ErrorKind). Comes told registry_of passes alone (answering_with m c.args.caller a) w tt v) c.answer_told.ensures c.answer_with.ensures.comes in
    record {
      comes = start_still told registry_of passes alone m c.args.caller c.args.name.value c.args.outcome c.args.outcome.reply w v c.in_default.not-Gone c.in_default.not-Held answers;
      room = c.answer_with.ensures.room;
    }
