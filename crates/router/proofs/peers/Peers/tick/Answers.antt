use Rattle.std.proofs.Common.{[], subst}
use Rattle.router_core.specs.Events.{leaving_all, ticking}
use Rattle.router_core.specs.Scripts.{Comes}
use Rattle.router_core.specs.Standing.{Standing, trimmed}
use Rattle.router.specs.Tables.{Table}
use Rattle.router.proofs.Ticks.{ticks}
use Rattle.router.proofs.Indexing.{index_kept, index_trimmed, index_untrimmed}
use Rattle.router.proofs.Keeping.{checks_keep}
use Rattle.router.proofs.Slabs.{standing_of}
use Rattle.router.proofs.peers.Peers.tick.Goals as goal

pub returns-clause-comes : goal.returns-clause-comes
returns-clause-comes g c =
    let told = g.V.BusView.told in
    let registry_of = g.V.BusView.registry_of in
    let passes = g.G.Gate.passes in
    let alone = g.V.BusView.alone in
    let s = standing_of c.self.inside.peers c.self.inside.due_leaves.items c.self.inside.login in
    let kept = c.leave_all.new.due_leaves.items in
    let ys = trimmed c.check_all.new.peers.slots in
    let w = c.self.inside.context.world in
    let m = c.leave_all.new.self.world in
    let v = c.check_all.new.context.world in
    let before : Standing = record s { due_leaves = [] } in
    let between : Standing = record s { due_leaves = kept } in
    let raw = c.leave_all.ensures.comes s in
    let of_numbers = subst (λ numbers. Comes told registry_of passes alone (leaving_all numbers (record s { due_leaves = c.in_ok-kept.kept.items })) c.reserve.new.self.world between m) c.deref.ensures.value raw in
    let of_none = subst (λ leaves. Comes told registry_of passes alone (leaving_all s.due_leaves (record s { due_leaves = leaves })) c.reserve.new.self.world between m) c.in_ok-kept.ensures.items of_numbers in
    let made = subst (λ k. Comes told registry_of passes alone (leaving_all s.due_leaves before) k between m) c.reserve.ensures.world of_none in
    subst (λ (k : Table g.row.V-Note.Denot g.row.G.Denot). Comes told registry_of passes alone (ticking k.standing) k.work.world (record s { peers = ys; due_leaves = kept }) v) c.self.view_is
    (ticks told registry_of passes alone w m v s kept ys made c.check_all.ensures.comes)

pub invariant_of-self-2 : goal.invariant_of-self-2
invariant_of-self-2 g c =
    let slots = c.self.inside.peers.slots in
    let key_of_slot = c.self.inside.key_of_slot in
    let after = c.check_all.new.peers.slots in
    let keeps = checks_keep g.V.BusView.told g.V.BusView.registry_of g.G.Gate.passes g.V.BusView.alone c.leave_all.new.self.world c.check_all.new.context.world (trimmed slots) (trimmed after) c.check_all.ensures.comes in
    index_untrimmed after key_of_slot (index_kept (trimmed slots) (trimmed after) key_of_slot keeps (index_trimmed slots key_of_slot c.self.invariant))
