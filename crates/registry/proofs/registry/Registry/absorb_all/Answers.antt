use Rattle.std.proofs.Common.{◌≡◌, ◌+◌, ◌∷◌, ◌++◌, [], List, take, ap, sym, ◌∙◌}
use Rattle.seq_bus_core.specs.BusState.{BusState}
use Rattle.seq_bus_core.specs.Steps.{step}
use Rattle.match_index.proofs.Lists.{done_is}
use Rattle.registry.specs.PreparedChanges.{PreparedChange, absorbed_along}
use Rattle.registry.proofs.Along.{absorbed_more}
use Rattle.registry.proofs.registry.Registry.absorb_all.Goals as goal

pub loop-next-preserved : goal.loop-next-preserved
loop-next-preserved c =
    let s : BusState = c.args.self.now in
    let all : List PreparedChange = c.args.prepared.now in
    let i = c.loop-next.next-index in
    let p : PreparedChange = c.next-item.result in
    let more : take (i + 1) all ≡ take i all ++ p ∷ [] = done_is all i p c.loop-next-test.true c.next-item.is in
    c.absorb.ensures ∙ ap (λ (t : BusState). (step t p.seat p.change).0) c.loop-next.invariant ∙ sym (absorbed_more s (take i all) p) ∙ ap (absorbed_along s) (sym more)
