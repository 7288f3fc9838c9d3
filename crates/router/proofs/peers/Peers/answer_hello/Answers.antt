use Rattle.std.proofs.Common.{Option, sym, ◌∙◌, subst}
use Rattle.message_core.specs.Said.{said}
use Rattle.router_core.specs.Events.{closing_former, for_peer, dismissal, greeting}
use Rattle.router_core.specs.Scripts.{RunsTo}
use Rattle.router_core.specs.Standing.{Peer, Standing, peer_at}
use Rattle.router.specs.Indexed.{IsNameless}
use Rattle.router.proofs.HelloAnswers.{is_turned_away, is_welcome, nameless_slot}
use Rattle.router_steps.proofs.Sequels.{comes_then}
use Rattle.router.proofs.peers.Peers.answer_hello.Goals as goal

-- it is where it was
pub welcome-requires-clause-nameless : goal.welcome-requires-clause-nameless
welcome-requires-clause-nameless g c =
    let key = c.args.key in
    let old = peer_at c.args.self.now.standing key in
    let same = c.close_former.ensures.others key (nameless_slot c.in-Some.conn.slot old c.requires.nameless) in
    subst (λ (o : Option Peer). IsNameless o) (sym same) c.requires.nameless

pub returns-in-Some-clause-comes : goal.returns-in-Some-clause-comes
returns-in-Some-clause-comes g c p is =
    let key = c.args.key in
    let m = said c.args.hello.now in
    let o = c.args.outcome in
    let conn = c.in-Some.conn in
    let s = c.args.self.now.standing in
    let w = c.args.self.now.work.world in
    let t = c.welcome.new.self.standing in
    let v = c.welcome.new.self.work.world in
    let same = c.close_former.ensures.others key (nameless_slot conn.slot (peer_at s key) c.requires.nameless) in
    is_welcome g.V.BusView.told g.V.BusView.registry_of g.G.Gate.passes g.V.BusView.alone s key m p o w t v o.reply conn (sym c.in-Some.ensures)
    (comes_then g.V.BusView.told g.V.BusView.registry_of g.G.Gate.passes g.V.BusView.alone (λ (u : Standing). greeting key m p o conn u) c.close_former.new.self.standing c.close_former.new.self.work.world t v (c.welcome.ensures.comes p (same ∙ is)) (closing_former s conn) w c.close_former.ensures.comes)

pub returns-in-None-clause-comes : goal.returns-in-None-clause-comes
returns-in-None-clause-comes g c p is =
    let key = c.args.key in
    let m = said c.args.hello.now in
    let o = c.args.outcome in
    let s = c.args.self.now.standing in
    let w = c.args.self.now.work.world in
    let t = c.turn_away_at.new.self.standing in
    let v = c.turn_away_at.new.self.work.world in
    is_turned_away g.V.BusView.told g.V.BusView.registry_of g.G.Gate.passes g.V.BusView.alone s key m p o w t v o.reply (sym c.in-None.ensures)
    (subst (λ (q : Option Peer). RunsTo g.V.BusView g.G.Gate (for_peer s key q (dismissal key m)) w t v) is c.turn_away_at.ensures.comes)
