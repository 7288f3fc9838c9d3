use Rattle.std.proofs.Common.{Option, sym, subst}
use Rattle.seq_bus_core.specs.declared.outcome.Outcome.{Outcome}
use Rattle.bus_view.specs.declared.refusal.Cause.{Cause}
use Rattle.std.specs.Prelude.{Result}
use Rattle.message_core.specs.Said.{said}
use Rattle.router_core.specs.Answers.{error_for, refusal_of}
use Rattle.router_core.specs.Events.{for_peer, after_hello, refusing_hello}
use Rattle.router_core.specs.Scripts.{RunsTo}
use Rattle.router_core.specs.Standing.{Peer}
use Rattle.router_steps.specs.Hearing.{heard_change}
use Rattle.router.proofs.peers.Peers.finish_hello.Goals as goal

pub returns-in-Err-clause-comes : goal.returns-in-Err-clause-comes
returns-in-Err-clause-comes g c p is =
    let key = c.args.key in
    let m = said c.args.hello.now in
    let s = c.args.self.now.standing in
    let w = c.args.self.now.work.world in
    let t = c.refuse_at.new.self.standing in
    let v = c.refuse_at.new.self.work.world in
    let done = subst (λ (q : Option Peer). RunsTo g.V.BusView g.G.Gate (for_peer s key q (refusing_hello key m (error_for (refusal_of c.in-Err.why)))) w t v) is c.refuse_at.ensures.comes in
    subst (λ (heard : Result Outcome Cause). RunsTo g.V.BusView g.G.Gate (after_hello s key m p (heard_change heard)) w t v) (sym c.in-Err.is) done
