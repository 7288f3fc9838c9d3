use Rattle.std.proofs.Common.{◌≡◌, ◌∷◌, [], List, length, refl, sym, ap, subst, ◌∙◌, arith}
use Rattle.std.proofs.lemmas.List.{nil_from_length}
use Rattle.std.specs.Vec.Iter.{into_iter_items}
use Rattle.seq_bus_core.specs.declared.ticket.SettledTicket.{SettledTicket}
use Rattle.router_core.specs.Scripts.{Comes}
use Rattle.router_core.specs.Serving.{releasing_all}
use Rattle.router_steps.proofs.Rounds.{releases_more}
use Rattle.router_steps.proofs.context.Context.release_all.Goals as goal

pub loop-settled-preserved : goal.loop-settled-preserved
loop-settled-preserved g c =
    let at = c.loop-settled in
    let steps : into_iter_items at.settled-iterator ≡ c.in-Some.settled ∷ into_iter_items c.next.new.self = c.in-Some.ensures.steps.0 in
    let long = ap length steps in
    record {
      room = omega (arith, long, at.invariant.room, c.release.ensures.room);
      acted = omega (arith, long, at.invariant.acted, c.release.ensures.room);
      comes = λ v later. at.invariant.comes v
          (releases_more g.V.BusView.told g.V.BusView.registry_of g.G.Gate.passes g.V.BusView.alone at.self.world c.release.new.self.world v c.args.owner c.in-Some.settled (into_iter_items c.next.new.self) (into_iter_items at.settled-iterator) steps c.release.ensures.comes later);
    }

pub returns-clause-comes : goal.returns-clause-comes
returns-clause-comes g c =
    let told = g.V.BusView.told in
    let registry_of = g.V.BusView.registry_of in
    let passes = g.G.Gate.passes in
    let alone = g.V.BusView.alone in
    let at = c.loop-settled in
    let none : length (into_iter_items at.settled-iterator) ≡ 0 = sym at.settled-iterator.rest.ok.0 ∙ c.in-None.ensures.steps.0 in
    let empty : into_iter_items at.settled-iterator ≡ [] = nil_from_length _ none in
    let done = at.invariant.comes at.self.world (subst (λ (ts : List SettledTicket). Comes told registry_of passes alone (releasing_all c.args.owner ts) at.self.world tt at.self.world) (sym empty) (refl, refl)) in
    subst (λ (ts : List SettledTicket). Comes told registry_of passes alone (releasing_all c.args.owner ts) c.args.self.now.world tt at.self.world) c.into_iter-settled-iterator.ensures.into_iter_gives.0 done
