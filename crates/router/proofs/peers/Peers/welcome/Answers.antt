use Rattle.std.proofs.Common.{◌≡◌, Option, Some, set, refl, sym, ap, ◌∙◌, subst}
use Rattle.slab.specs.Slab.{get}
use Rattle.message_core.specs.Said.{said}
use Rattle.outbox_core.specs.Contents.{UniqueName}
use Rattle.router_core.specs.Events.{greeting}
use Rattle.router_core.specs.Scripts.{Gives, Announcing, RunsTo}
use Rattle.router_core.specs.Serving.{replying}
use Rattle.router_core.specs.Standing.{Peer, Standing, Named, peer_at, with_peer}
use Rattle.router_steps.proofs.Sequels.{comes_then}
use Rattle.router.specs.Tables.{Table}
use Rattle.router.specs.Indexed.{IsIndexed, IsNameless, IsVacant}
use Rattle.router.proofs.HelloAnswers.{nameless_peer, nameless_speaks}
use Rattle.router.proofs.Indexing.{index_named, vacant_untrimmed}
use Rattle.router.proofs.Slabs.{is_there, standing_of, stands, stood, written}
use Rattle.router.proofs.peers.Peers.welcome.Goals as goal

pub index_mut-requires : goal.index_mut-requires
index_mut-requires g c =
    let key = c.args.key in
    let slab = c.self.inside.peers in
    let due = c.self.inside.due_leaves.items in
    let login = c.self.inside.login in
    let nameless = subst (λ (k : Table g.row.V-Note.Denot g.row.G.Denot). IsNameless (peer_at k.standing key)) (sym c.self.view_is) c.requires.nameless in
    let found = nameless_peer (peer_at (standing_of slab due login) key) nameless in
    is_there (get slab key) found.0 (stood slab due login key (Some found.0) found.1)

pub welcome-requires : goal.welcome-requires
welcome-requires g c =
    let key = c.args.key in
    let slab = c.self.inside.peers in
    let due = c.self.inside.due_leaves.items in
    let login = c.self.inside.login in
    let nameless = subst (λ (k : Table g.row.V-Note.Denot g.row.G.Denot). IsNameless (peer_at k.standing key)) (sym c.self.view_is) c.requires.nameless in
    nameless_speaks c.index_mut.result.now (subst (λ (o : Option Peer). IsNameless o) (stands slab due login key (Some c.index_mut.result.now) c.index_mut.ensures.value) nameless)

pub returns-clause-comes : goal.returns-clause-comes
returns-clause-comes g c p is =
    let told = g.V.BusView.told in
    let registry_of = g.V.BusView.registry_of in
    let passes = g.G.Gate.passes in
    let alone = g.V.BusView.alone in
    let key = c.args.key in
    let m = said c.args.hello.now in
    let o = c.args.outcome in
    let conn = c.args.conn in
    let slab = c.self.inside.peers in
    let due = c.self.inside.due_leaves.items in
    let login = c.self.inside.login in
    let s = standing_of slab due login in
    let was = c.index_mut.result.now in
    let q = c.welcome.new.self in
    let there : get slab key ≡ Some was = c.index_mut.ensures.value in
    let here : peer_at s key ≡ Some p = subst (λ (k : Table g.row.V-Note.Denot g.row.G.Denot). peer_at k.standing key ≡ Some p) (sym c.self.view_is) is in
    let both : Some was ≡ Some p = sym (stands slab due login key (Some was) there) ∙ here in
    let same : was ≡ p = cc in
    let named : Peer = record p { stage = Named conn } in
    let is_named : q ≡ named = c.welcome.ensures ∙ ap (λ (x : Peer). let y : Peer = record x { stage = Named conn } in y) same in
    let w = c.self.inside.context.world in
    let v = c.announce.new.self.world in
    let end = with_peer s key (Some named) in
    let done =
    comes_then told registry_of passes alone (λ (done : Unit {0}). Announcing o.signals (Gives end)) tt c.reply_with.new.self.world end v (v, c.announce.ensures.announces, (refl, refl))
    (replying m conn (UniqueName conn.number)) w c.reply_with.ensures.comes
    in
    let t = standing_of (record slab { slots = set slab.slots key (Some q) }) due login in
    let ends : end ≡ t = ap (λ (x : Peer). with_peer s key (Some x)) (sym is_named) ∙ written slab due login key was q there in
    subst (λ (k : Table g.row.V-Note.Denot g.row.G.Denot). RunsTo g.V.BusView g.G.Gate (greeting key m p o conn k.standing) k.work.world t v) c.self.view_is
    (subst (λ (x : Standing). RunsTo g.V.BusView g.G.Gate (greeting key m p o conn s) w x v) ends done)

pub invariant_of-self : goal.invariant_of-self
invariant_of-self g c =
    let key = c.args.key in
    let conn = c.args.conn in
    let slots = c.self.inside.peers.slots in
    let key_of_slot = c.self.inside.key_of_slot in
    let vacant = subst (λ (k : Table g.row.V-Note.Denot g.row.G.Denot). IsVacant conn.slot k.standing.peers) (sym c.self.view_is) c.requires.vacant in
    let indexed = index_named slots key_of_slot c.self.invariant key c.index_mut.result.now conn (vacant_untrimmed conn.slot slots vacant) c.keep_key.ensures.count in
    let here = subst (λ (q : Peer). IsIndexed (set slots key (Some q)) (set key_of_slot conn.slot key)) (sym c.welcome.ensures) indexed in
    subst (λ ns. IsIndexed (set slots key (Some c.welcome.new.self)) ns) (sym c.keep_key.ensures.set) here
