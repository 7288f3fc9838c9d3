use Rattle.std.proofs.Common.{◌≡◌, List, length, set, get_or, refl, ap, subst, ◌∙◌, arith}
use Rattle.std.proofs.lemmas.List.Elements.{All-set}
use Rattle.std.proofs.lemmas.Option.{get_or_from_slice_get, slice_get_read}
use Rattle.outbox.specs.Lanes.{End, MayPut, Begins, of}
use Rattle.outbox.proofs.lane.Lane.compare.Goals as goal

pub compare-requires-clause-same : goal.compare-requires-clause-same
compare-requires-clause-same g c = let now = c.args.self.now in let slot = c.args.slot in let was = c.index_mut.result.now in
    (c.requires.end was (slice_get_read now (length now) slot was refl c.requires.slot (c.index_mut.ensures.value ∙ ap (λ (l : List (End _)). get_or l slot was) c.self.view_is))).0

pub compare-requires-clause-lane : goal.compare-requires-clause-lane
compare-requires-clause-lane g c = let now = c.args.self.now in let slot = c.args.slot in let was = c.index_mut.result.now in
    (c.requires.end was (slice_get_read now (length now) slot was refl c.requires.slot (c.index_mut.ensures.value ∙ ap (λ (l : List (End _)). get_or l slot was) c.self.view_is))).1

pub invariant_of-self : goal.invariant_of-self
invariant_of-self g c = let now = c.args.self.now in let slot = c.args.slot in let was = c.index_mut.result.now in let new = c.compare.new.lane in
    let to = (c.requires.end was (slice_get_read now (length now) slot was refl c.requires.slot (c.index_mut.ensures.value ∙ ap (λ (l : List (End _)). get_or l slot was) c.self.view_is))).1 in
    let same = c.compare.ensures.lane in
    All-set MayPut c.self.inside.ends.items slot new (omega (arith, to, same.1, same.2)) c.self.invariant

pub returns-clause-begins : goal.returns-clause-begins
returns-clause-begins g c e at = let slot = c.args.slot in let was = c.index_mut.result.now in
    let is : was ≡ e = c.index_mut.ensures.value ∙ ap (λ (l : List (End _)). get_or l slot was) c.self.view_is ∙ get_or_from_slice_get c.args.self.now slot e was at in
    subst (λ (x : End _). Begins x.hand.from c.args.tap.now.hand.taken x.hand.put) is c.compare.ensures.begins

pub returns-clause-end : goal.returns-clause-end
returns-clause-end g c e at = let slot = c.args.slot in let was = c.index_mut.result.now in let new = c.compare.new.lane in let same = c.compare.ensures.lane in
    let is : was ≡ e = c.index_mut.ensures.value ∙ ap (λ (l : List (End _)). get_or l slot was) c.self.view_is ∙ get_or_from_slice_get c.args.self.now slot e was at in (
      new,
      (λ i. set (c.self.view_is i) slot new),
      same.0 ∙ ap (λ (x : End _). x.queue) is,
      same.1 ∙ ap (λ (x : End _). x.hand.from) is,
      same.2 ∙ ap (λ (x : End _). x.hand.to) is,
      subst (λ (x : End _). of x.hand.from new.hand.put ≡ of x.hand.from x.hand.put) is same.3,
    )
