use Rattle.std.proofs.Common.{◌≡◌, ◌+◌, ◌++◌, ◌∷◌, [], suc, List, length, ap, subst, sym, ◌∙◌, arith, All}
use Rattle.std.proofs.lemmas.List.{length-map}
use Rattle.outbox.specs.Lanes.{End, HasGiven, keeps_rest, lanes_of}
use Rattle.outbox.proofs.Giving.{one_more, given_more}
use Rattle.outbox.proofs.opening.open_all.Goals as goal

pub loop-lane-preserved : goal.loop-lane-preserved
loop-lane-preserved g c = let old = c.loop-lane.taps.items in let n = c.loop-lane.lane in let inv = c.loop-lane.invariant in let rest = c.in_ok-next.ensures.rest in
    let more : suc n ≡ n + 1 = omega arith in (
      ap (λ (l : List (End _)). length l) rest ∙ length-map old keeps_rest ∙ inv.0,
      subst (λ (l : List (End _)). All (HasGiven (n + 1)) l) (sym rest) (given_more n old inv.1),
      c.in_ok-push-2.ensures.items ∙ (λ i. inv.2 i ++ c.in_ok-next.ensures.lane i ∷ []) ∙ one_more n old inv.1 ∙ (λ i. lanes_of (more i) (sym rest i)),
      omega (arith, c.loop-lane-test.true),
    )
