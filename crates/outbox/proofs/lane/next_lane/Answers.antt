use Rattle.std.proofs.Common.{◌≡◌, ◌<◌, ◌+◌, ◌++◌, ◌∷◌, [], suc, ℕ, List, length, map, take, drop, set, get_or, ap, subst, sym, ◌∙◌, arith, All}
use Rattle.std.proofs.lemmas.List.Elements.{All-get_or, All-map}
use Rattle.outbox.specs.Lanes.{End, MayPut, gives, keeps_rest}
use Rattle.outbox.proofs.Lists.{seam}
use Rattle.outbox.proofs.lane.next_lane.Goals as goal

pub give_lane-requires : goal.give_lane-requires
give_lane-requires g c = let old = c.args.taps.now.items in let i = c.loop-i.i in let d = c.index_mut.result.now in
    let less : i < length old = omega (arith, c.loop-i-test.true, c.len-i-end.ensures) in
    let is : d ≡ get_or old i d = c.index_mut.ensures.value ∙ ap (λ (l : List (End _)). get_or l i d) c.loop-i.invariant.1 ∙ (seam gives keeps_rest d old i less).0 in
    subst (λ (e : End _). MayPut e) (sym is) (All-get_or MayPut old i d less c.requires)

pub loop-i-preserved : goal.loop-i-preserved
loop-i-preserved g c = let old = c.args.taps.now.items in let i = c.loop-i.i in let d = c.index_mut.result.now in
    let less : i < length old = omega (arith, c.loop-i-test.true, c.len-i-end.ensures) in
    let r = seam gives keeps_rest d old i less in
    let is : d ≡ get_or old i d = c.index_mut.ensures.value ∙ ap (λ (l : List (End _)). get_or l i d) c.loop-i.invariant.1 ∙ r.0 in
    let more : suc i ≡ i + 1 = omega arith in (
      subst (λ (n : ℕ). c.push.new.self.items ≡ map gives (take n old)) more (c.in_ok-push.ensures.items ∙ (λ k. c.loop-i.invariant.0 k ++ (c.in_ok-end.ensures.gives ∙ ap (λ (e : End _). gives e) is) k ∷ []) ∙ r.1),
      subst (λ (n : ℕ). set c.loop-i.taps.items i c.give_lane.new.self ≡ map keeps_rest (take n old) ++ drop n old) more ((λ k. set (c.loop-i.invariant.1 k) i ((c.in_ok-end.ensures.rest ∙ ap (λ (e : End _). keeps_rest e) is) k)) ∙ r.2),
      omega (arith, less),
    )

pub invariant_of-result : goal.invariant_of-result
invariant_of-result g c = subst (λ (l : List (End _)). All MayPut l) (sym c.loop-i.invariant.0) (All-map MayPut gives (take c.loop-i.i c.args.taps.now.items) (λ k d _. omega arith))
