use Rattle.std.proofs.Common.{◌≡◌, ap, subst, sym, ◌∙◌, arith, eqb}
use Rattle.crossbeam_queue.specs.Passes.{view}
use Rattle.outbox.specs.declared.hand.Hand.{Hand}
use Rattle.outbox.specs.Lanes.{End, of, Shows, adopted, only_first}
use Rattle.outbox.proofs.Picks.{pick_inner}
use Rattle.outbox.proofs.Rules.{forks, merges, shows, compares}
use Rattle.outbox.proofs.ends.Tap.compare.Goals as goal

pub another-moved-requires-clause-rule : goal.another-moved-requires-clause-rule
another-moved-requires-clause-rule g c = let from = ap (λ (e : End _). e.hand.from) c.lane.view_is in let to = ap (λ (e : End _). e.hand.to) c.lane.view_is in
    forks _ _ (omega (arith, from, to, c.requires.lane))

pub absorb-requires-clause-rule : goal.absorb-requires-clause-rule
absorb-requires-clause-rule g c = let from = ap (λ (e : End _). e.hand.from) c.self.view_is in let to = ap (λ (e : End _). e.hand.to) c.self.view_is in
    let low = ap (λ (v : Hand _). v.from) c.another-moved.ensures.rule.1 in let high = ap (λ (v : Hand _). v.to) c.another-moved.ensures.rule.1 in
    merges _ _ _ _ (omega (arith, from, to, c.requires.tap)) (omega (arith, low, high))

pub learn_as-requires-clause-rule : goal.learn_as-requires-clause-rule
learn_as-requires-clause-rule g c = shows _ _

pub another-requires-clause-rule : goal.another-requires-clause-rule
another-requires-clause-rule g c = let low = ap (λ (v : Hand _). v.from) c.another-moved.ensures.rule.1 in let high = ap (λ (v : Hand _). v.to) c.another-moved.ensures.rule.1 in
    let is = c.learn_as.ensures.queue.1 ∙ c.absorb.ensures.rule in let from = ap (λ (v : Hand _). v.from) is in let to = ap (λ (v : Hand _). v.to) is in
    forks _ _ (omega (arith, low, high, from, to))

pub returns-clause-begins : goal.returns-clause-begins
returns-clause-begins g c = let tap = c.args.self.now.hand in let lane = c.args.lane.now.hand in let k = lane.from in
    let moved = c.another-moved.ensures.rule.1 ∙ ap (λ (e : End _). only_first e.hand) c.lane.view_is in
    let is : view c.absorb.new.pass ≡ adopted tap (only_first lane) = c.absorb.ensures.rule ∙ (λ i. adopted (c.self.view_is i).hand (moved i)) in
    let seen = c.learn_as.ensures.rule in
    let r = compares (adopted tap (only_first lane)) seen.0 (ap (λ (e : End _). e.hand.takes) (sym c.self.view_is) ∙ c.self.invariant.2) (omega arith) (subst (λ (v : Hand _). Shows v seen.0) is seen.1) in
    (r.0, sym (pick_inner (λ i. eqb i k) (λ i. eqb i k) lane.put (λ _ e. e)) ∙ r.1)

pub returns-clause-lane : goal.returns-clause-lane
returns-clause-lane g c = let tap = c.args.self.now.hand in let lane = c.args.lane.now.hand in let k = lane.from in
    let moved = c.another-moved.ensures.rule.1 ∙ ap (λ (e : End _). only_first e.hand) c.lane.view_is in
    let is : view c.absorb.new.pass ≡ adopted tap (only_first lane) = c.absorb.ensures.rule ∙ (λ i. adopted (c.self.view_is i).hand (moved i)) in
    let back : view c.another.result ≡ only_first (adopted tap (only_first lane)) = c.another.ensures.rule.1 ∙ ap (λ (v : Hand _). only_first v) (c.learn_as.ensures.queue.1 ∙ is) in
    let twice = pick_inner (λ i. eqb i k) (λ i. eqb i k) in (
      c.another.ensures.queue.1.0 ∙ ap (λ q. q.table.shared.table_id) c.deref-4.ensures ∙ sym c.self.invariant.0.0 ∙ ap (λ (e : End _). e.queue) c.self.view_is ∙ c.requires.same,
      ap (λ (v : Hand _). v.from) back,
      ap (λ (v : Hand _). v.to) back ∙ sym c.requires.lane,
      ap (λ (v : Hand _). of k v.put) back ∙ twice (of k lane.put) (λ _ e. e) ∙ twice lane.put (λ _ e. e),
    )
