use Rattle.std.proofs.Common.{subst}
use Rattle.router_core.specs.Events.{leaving}
use Rattle.router_core.specs.Scripts.{Comes}
use Rattle.router_core.specs.Standing.{Standing, trimmed}
use Rattle.router.specs.Tables.{Table}
use Rattle.router.proofs.peers.Peers.leave.Goals as goal

pub returns-clause-comes : goal.returns-clause-comes
returns-clause-comes g c =
    let told = g.V.BusView.told in
    let registry_of = g.V.BusView.registry_of in
    let passes = g.G.Gate.passes in
    let alone = g.V.BusView.alone in
    let s : Standing = record { peers = trimmed c.self.inside.peers.slots; due_leaves = c.self.inside.due_leaves.items; login = c.self.inside.login } in
    let t : Standing = record s { due_leaves = c.leave.new.due_leaves.items } in
    let v = c.leave.new.self.world in
    let of_leaves = subst (λ leaves. Comes told registry_of passes alone (leaving (record s { due_leaves = leaves }) c.args.number) c.reserve.new.self.world t v) c.reserve-2.ensures.items (c.leave.ensures.comes s) in
    let made = subst (λ k. Comes told registry_of passes alone (leaving s c.args.number) k t v) c.reserve.ensures.world of_leaves in
    subst (λ (k : Table g.row.V-Note.Denot g.row.G.Denot). Comes told registry_of passes alone (leaving k.standing c.args.number) k.work.world t v) c.self.view_is made
