use Rattle.std.proofs.Common.{subst}
use Rattle.router_core.specs.Events.{ending_child}
use Rattle.router_core.specs.Scripts.{Comes}
use Rattle.router_core.specs.Standing.{Standing, trimmed}
use Rattle.router.specs.Tables.{Table}
use Rattle.router.proofs.peers.Peers.end_start.Goals as goal

pub returns-clause-comes : goal.returns-clause-comes
returns-clause-comes g c =
    let told = g.V.BusView.told in
    let registry_of = g.V.BusView.registry_of in
    let passes = g.G.Gate.passes in
    let alone = g.V.BusView.alone in
    let s : Standing = record { peers = trimmed c.self.inside.peers.slots; due_leaves = c.self.inside.due_leaves.items; login = c.self.inside.login } in
    let v = c.end_start.new.self.world in
    let ended = subst (λ k. Comes told registry_of passes alone (ending_child s c.args.ended.now) k s v) c.reserve.ensures.world (c.in_ok-end_start.ensures.comes s) in
    subst (λ (k : Table g.row.V-Note.Denot g.row.G.Denot). Comes told registry_of passes alone (ending_child k.standing c.args.ended.now) k.work.world s v) c.self.view_is ended
