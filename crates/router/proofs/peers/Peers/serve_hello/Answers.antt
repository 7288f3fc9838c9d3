use Rattle.std.proofs.Common.{◌≡◌, Some, sym, subst}
use Rattle.message_core.specs.Said.{said}
use Rattle.router_core.specs.Events.{serving_hello}
use Rattle.router_core.specs.Scripts.{RunsTo}
use Rattle.router_core.specs.Standing.{peer_at}
use Rattle.router_steps.specs.Hearing.{heard_change}
use Rattle.router.specs.Tables.{Table}
use Rattle.router.proofs.peers.Peers.serve_hello.Goals as goal

pub returns-clause-comes : goal.returns-clause-comes
returns-clause-comes g c p is =
    let key = c.args.key in
    let m = said c.args.hello.now in
    let t = c.finish_hello.new.self.standing in
    let v = c.finish_hello.new.self.work.world in
    let here = subst (λ (k : Table g.row.V-Note.Denot g.row.G.Denot). peer_at k.standing key ≡ Some p) (sym c.self.view_is) is in
    subst (λ (k : Table g.row.V-Note.Denot g.row.G.Denot). RunsTo g.V.BusView g.G.Gate (serving_hello k.standing key m p c.args.privileged) k.work.world t v) c.self.view_is
    (c.show_gate.new.self.world, c.show_gate.ensures.passes, (heard_change c.change-heard.result, c.change-heard.new.self.world, c.change-heard.ensures.changes, c.finish_hello.ensures.comes p here))
