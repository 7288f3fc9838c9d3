use Rattle.std.proofs.Common.{◌≡◌, ◌∙◌, ◌+◌, ◌++◌, ◌∷◌, [], List, take, ap, sym, arith}
use Rattle.registry.specs.PreparedChanges.{PreparedChange, prepared_along, prepared_on, state_along}
use Rattle.registry.proofs.Along.{made_next, prepared_more}
use Rattle.match_index.proofs.Lists.{done_is}
use Rattle.seq_bus_core.specs.BusState.{BusState}
use Rattle.seq_bus_core.specs.declared.change.Change.{Change}
use Rattle.registry.proofs.registry.Registry.prepare_all.Goals as goal

pub loop-change-preserved : goal.loop-change-preserved
loop-change-preserved c =
    let s : BusState = c.args.self.now in
    let seat = c.args.seat in
    let i = c.loop-change.change-index in
    let inv = c.loop-change.invariant in
    let done : List Change = take i c.args.changes.now in
    let change : Change = c.change-item.result in
    let p : PreparedChange = c.in_ok-prepared.prepared in
    let more : take (i + 1) c.args.changes.now ≡ done ++ change ∷ [] = done_is c.args.changes.now i change c.loop-change-test.true c.change-item.is in
    record {
      prepared = c.push_reserved.ensures.items ∙ ap (λ (ps : List PreparedChange). ps ++ p ∷ []) inv.prepared
          ∙ ap (λ (q : PreparedChange). prepared_along s seat done ++ q ∷ []) (c.in_ok-prepared.ensures.prepared ∙ ap (λ (t : BusState). prepared_on t seat change) inv.made)
          ∙ sym (prepared_more s seat done change) ∙ ap (prepared_along s seat) (sym more);
      made = made_next s seat done change c.loop-change.self c.make.new.self p inv.made c.in_ok-prepared.ensures.prepared c.in_ok-prepared.ensures.made ∙ ap (state_along s seat) (sym more);
      as_many = omega (arith, inv.as_many, c.push_reserved.ensures.len);
      room = omega (arith, inv.room, c.push_reserved.ensures.capacity);
    }
