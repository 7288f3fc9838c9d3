use Rattle.std.proofs.Common.{◌≡◌, ◌<◌, List, length, set, get_or, ap, subst, sym, ◌∙◌}
use Rattle.std.proofs.lemmas.List.{set-get_or}
use Rattle.std.proofs.lemmas.List.Elements.{All-get_or, All-set}
use Rattle.std.proofs.lemmas.Option.{get_or_from_slice_get}
use Rattle.crossbeam_queue.specs.Fifo.{Held}
use Rattle.outbox.specs.declared.ends.TheConstants.{ROOM}
use Rattle.outbox.specs.declared.hand.Hand.{Hand}
use Rattle.outbox.specs.Lanes.{End, MayPut, Shows, sent, with}
use Rattle.outbox.proofs.Lists.{either, each}
use Rattle.outbox.proofs.lane.Lane.put.Goals as goal

pub put-requires : goal.put-requires
put-requires g c = subst (λ (e : End _). MayPut e) (sym c.index_mut.ensures.value)
    (All-get_or MayPut c.self.inside.ends.items c.args.slot _ (subst (λ (l : List (End _)). c.args.slot < length l) (sym c.self.view_is) c.requires) c.self.invariant)

pub invariant_of-self : goal.invariant_of-self
invariant_of-self g c = let P : Hand _ → Type 0 = λ v. v.from < v.to in let was = All-get_or MayPut c.self.inside.ends.items c.args.slot c.index_mut.result.now (subst (λ (l : List (End _)). c.args.slot < length l) (sym c.self.view_is) c.requires) c.self.invariant in
    let now : MayPut c.index_mut.result.now = subst (λ (e : End _). MayPut e) (sym c.index_mut.ensures.value) was in
    All-set MayPut c.self.inside.ends.items c.args.slot c.put.new.self
    (either c.put.result _ _ (MayPut c.put.new.self) c.put.ensures.rule (λ _ h. subst P (sym h) now) (λ _ h. subst P (sym h.1) now))
    c.self.invariant

pub returns-clause-rule : goal.returns-clause-rule
returns-clause-rule g c e at = let items = c.self.inside.ends.items in let slot = c.args.slot in let was = c.index_mut.result.now in let new = c.put.new.self in
    let found : get_or items slot was ≡ e = ap (λ (l : List (End _)). get_or l slot was) c.self.view_is ∙ get_or_from_slice_get c.args.self.now slot e was at in
    let is : was ≡ e = c.index_mut.ensures.value ∙ found in
    each c.put.result _ _ _ _ c.put.ensures.rule
    (λ _ h.
    let same : new ≡ with e (sent e.hand c.args.item) = λ i. record { queue = (c.put.ensures.queue ∙ ap (λ (x : End _). x.queue) is) i; hand = (h ∙ ap (λ (x : End _). sent x.hand c.args.item) is) i } in
    λ i. set (c.self.view_is i) slot (same i))
    (λ _ h.
    let same : new ≡ get_or items slot was = (λ i. record { queue = c.put.ensures.queue i; hand = h.1 i }) ∙ c.index_mut.ensures.value in
    (h.0, ap (λ (x : End _). set items slot x) same ∙ set-get_or items slot was ∙ c.self.view_is, subst (λ (x : End _). Held ROOM (Shows x.hand)) is h.2))
