use Rattle.std.proofs.Common.{◌≡◌, List, get_or, ap, subst, ◌∙◌}
use Rattle.std.proofs.lemmas.Option.{get_or_from_slice_get}
use Rattle.outbox.specs.Lanes.{End, HadItems}
use Rattle.outbox.proofs.lane.Lane.len.Goals as goal

pub returns-clause-count : goal.returns-clause-count
returns-clause-count g c e at =
    let was = c.index_mut.result.now in
    let found : get_or c.self.inside.ends.items c.args.slot was ≡ e =
    ap (λ (l : List (End _)). get_or l c.args.slot was) c.self.view_is ∙ get_or_from_slice_get c.args.self.now c.args.slot e was at in
    subst (λ (x : End _). HadItems c.len.result x) (c.index_mut.ensures.value ∙ found) c.len.ensures.count
