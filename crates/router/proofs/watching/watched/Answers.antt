use Rattle.std.proofs.Common.{refl, sym, subst}
use Rattle.message_core.specs.Said.{said}
use Rattle.seq_bus_core.specs.declared.outcome.Reply.{Reply}
use Rattle.router_core.specs.declared.fate.PeerFate.TheVariants.{Watches}
use Rattle.router_core.specs.Scripts.{Gives, Comes}
use Rattle.router_core.specs.Serving.{telling_change, after_watch_by}
use Rattle.router_steps.proofs.Sequels.{comes_then}
use Rattle.router.proofs.Waits.{watch_still}
use Rattle.router.proofs.watching.watched.Goals as goal

pub returns-in-Done-clause-comes : goal.returns-in-Done-clause-comes
returns-in-Done-clause-comes g c =
    let told = g.V.BusView.told in
    let registry_of = g.V.BusView.registry_of in
    let passes = g.G.Gate.passes in
    let alone = g.V.BusView.alone in
    let m = said c.args.call.now in
    let w = c.args.context.now.world in
    let v = c.tell_change.new.context.world in
    let watches = comes_then told registry_of passes alone (λ (done : Unit {0}). Gives Watches) tt v Watches v (refl, refl) (telling_change m c.args.caller c.args.outcome) w c.tell_change.ensures.comes in
    subst (λ (r : Reply). Comes told registry_of passes alone (after_watch_by m c.args.caller c.args.outcome r) w Watches v) (sym c.in-Done.is) watches

pub returns-in_default : goal.returns-in_default
returns-in_default g c = record {
  comes = watch_still g.V.BusView.told g.V.BusView.registry_of g.G.Gate.passes g.V.BusView.alone (said c.args.call.now) c.args.caller c.args.outcome c.args.outcome.reply
      c.args.context.now.world c.tell_change-in_default.new.context.world c.in_default.not-Gone c.in_default.not-Done c.tell_change-in_default.ensures.comes;
  room = c.tell_change-in_default.ensures.room;
}
