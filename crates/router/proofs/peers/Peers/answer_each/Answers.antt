use Rattle.std.proofs.Common.{◌≡◌, ◌<◌, ◌∷◌, [], List, length, drop, sym, subst, ◌∙◌, arith}
use Rattle.std.proofs.lemmas.List.{nil_from_length}
use Rattle.std.specs.List.{AllByRecursion}
use Rattle.std.specs.Vec.Iter.{into_iter_items}
use Rattle.seq_bus_core.specs.declared.outcome.Outcome.{Outcome}
use Rattle.router_core.specs.Events.{answering_each}
use Rattle.router_core.specs.Scripts.{Comes}
use Rattle.router.specs.Joinings.{RepliesAlone}
use Rattle.router.proofs.Turnings.{answers_more, answers_none}
use Rattle.router.proofs.peers.Peers.answer_each.Goals as goal

pub loop-outcome-preserved-then-place-joints : goal.loop-outcome-preserved-then-place-joints
loop-outcome-preserved-then-place-joints g c =
    let at = c.loop-outcome in
    let joints = c.args.joints.now in
    let rest = into_iter_items c.next.new.self in
    let steps : into_iter_items at.outcome-iterator ≡ c.in-Some.outcome ∷ rest = c.in-Some.ensures.steps.0 in
    let inside : at.place < length joints = omega arith in
    let left = subst (AllByRecursion RepliesAlone) steps at.invariant.alone in
    record {
      within = omega arith;
      room = omega arith;
      spare_verdicts = omega arith;
      alone = left.1;
      keys = c.answer_one.ensures.keys ∙ at.invariant.keys;
      comes = λ end v later.
          at.invariant.comes end v
          (answers_more g.V.BusView.told g.V.BusView.registry_of g.G.Gate.passes g.V.BusView.alone joints at.place c.index-joints-place.result (into_iter_items at.outcome-iterator) rest c.in-Some.outcome inside c.index-joints-place.is steps at.self.standing c.answer_one.new.self.standing end at.self.work.world c.answer_one.new.self.work.world v c.answer_one.ensures.comes later);
    }

pub returns-clause-comes : goal.returns-clause-comes
returns-clause-comes g c =
    let told = g.V.BusView.told in
    let registry_of = g.V.BusView.registry_of in
    let passes = g.G.Gate.passes in
    let alone = g.V.BusView.alone in
    let at = c.loop-outcome in
    let joints = c.args.joints.now in
    let none : length (into_iter_items at.outcome-iterator) ≡ 0 = sym at.outcome-iterator.rest.ok.0 ∙ c.in-None.ensures.steps.0 in
    let empty : into_iter_items at.outcome-iterator ≡ [] = nil_from_length _ none in
    let end = at.self.standing in
    let v = at.self.work.world in
    let done = at.invariant.comes end v (subst (λ (os : List Outcome). Comes told registry_of passes alone (answering_each (drop at.place joints) os end) v end v) (sym empty) (answers_none told registry_of passes alone (drop at.place joints) end v)) in
    subst (λ (os : List Outcome). Comes told registry_of passes alone (answering_each joints os c.args.self.now.standing) c.args.self.now.work.world end v) c.into_iter-outcome-iterator.ensures.into_iter_gives.0 done
