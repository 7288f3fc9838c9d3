use Rattle.std.proofs.Common.{◌≡◌, ◌∷◌, [], List, length, refl, sym, ap, subst, ◌∙◌, arith}
use Rattle.std.proofs.lemmas.List.{nil_from_length}
use Rattle.std.specs.List.{AllByRecursion}
use Rattle.std.specs.Vec.Iter.{into_iter_items}
use Rattle.seq_bus_core.specs.Bounds.{IsBounded}
use Rattle.seq_bus_core.specs.declared.outcome.Outcome.{Outcome}
use Rattle.router_core.specs.Events.{announcing_all}
use Rattle.router_core.specs.Scripts.{Comes}
use Rattle.router_steps.proofs.context.Context.announce_all.Goals as goal

pub announce-requires : goal.announce-requires
announce-requires g c =
    let at = c.loop-outcome in
    let steps : into_iter_items at.outcome-iterator ≡ c.in-Some.outcome ∷ into_iter_items c.next.new.self = c.in-Some.ensures.steps.0 in
    let few = subst (AllByRecursion IsBounded) steps at.invariant.few in
    omega (arith, ap length steps, at.invariant.room, few.0.signals)

pub loop-outcome-preserved : goal.loop-outcome-preserved
loop-outcome-preserved g c =
    let told = g.V.BusView.told in
    let registry_of = g.V.BusView.registry_of in
    let passes = g.G.Gate.passes in
    let alone = g.V.BusView.alone in
    let at = c.loop-outcome in
    let steps : into_iter_items at.outcome-iterator ≡ c.in-Some.outcome ∷ into_iter_items c.next.new.self = c.in-Some.ensures.steps.0 in
    let long = ap length steps in
    let few = subst (AllByRecursion IsBounded) steps at.invariant.few in
    record {
      few = few.1;
      room = omega (arith, long, at.invariant.room, few.0.signals, c.announce.ensures.room);
      acted = omega (arith, long, at.invariant.acted, few.0.signals, c.announce.ensures.room);
      comes = λ v later. at.invariant.comes v
          (subst (λ (os : List Outcome). Comes told registry_of passes alone (announcing_all os) at.self.world tt v) (sym steps) (c.announce.new.self.world, c.announce.ensures.announces, later));
    }

pub returns-clause-comes : goal.returns-clause-comes
returns-clause-comes g c =
    let told = g.V.BusView.told in
    let registry_of = g.V.BusView.registry_of in
    let passes = g.G.Gate.passes in
    let alone = g.V.BusView.alone in
    let at = c.loop-outcome in
    let none : length (into_iter_items at.outcome-iterator) ≡ 0 = sym at.outcome-iterator.rest.ok.0 ∙ c.in-None.ensures.steps.0 in
    let empty : into_iter_items at.outcome-iterator ≡ [] = nil_from_length _ none in
    let done = at.invariant.comes at.self.world (subst (λ (os : List Outcome). Comes told registry_of passes alone (announcing_all os) at.self.world tt at.self.world) (sym empty) (refl, refl)) in
    subst (λ (os : List Outcome). Comes told registry_of passes alone (announcing_all os) c.args.self.now.world tt at.self.world) c.into_iter-outcome-iterator.ensures.into_iter_gives.0 done
