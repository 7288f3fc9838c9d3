use Rattle.std.proofs.Common.{◌≡◌, Some, None, set, sym, ap, ◌∙◌, subst}
use Rattle.std.specs.Option.{option_copied_mut}
use Rattle.std.proofs.lemmas.Result.{on_ok_weaker}
use Rattle.slab.specs.Slab.{get}
use Rattle.router_core.specs.Events.{for_peer, hearing}
use Rattle.router_core.specs.Scripts.{World, Comes, RunsTo}
use Rattle.router_core.specs.Standing.{Peer, peer_at}
use Rattle.router.specs.Tables.{Table}
use Rattle.router.proofs.Indexing.{index_at, same_keeps, either_way}
use Rattle.router.proofs.Keeping.{feed_keeps}
use Rattle.router.proofs.Slabs.{for_nobody, for_one, for_there, standing_of}
use Rattle.router.proofs.peers.Peers.feed.Goals as goal

pub invariant_of-self-2 : goal.invariant_of-self-2
invariant_of-self-2 g c =
    let key = c.args.key in
    let p = c.in-Some.peer.now in
    let q = c.hear.new.peer in
    let there : get c.self.inside.peers key ≡ Some p = sym c.get_mut.ensures.value ∙ ap option_copied_mut c.in-Some.is in
    let keeps =
    either_way c.hear.result c.hear.ensures.comes c.hear.ensures.err
    (λ came. feed_keeps g.V.BusView.told g.V.BusView.registry_of g.G.Gate.passes g.V.BusView.alone c.reserve.new.self.world c.hear.new.self.world key c.args.piece.now.items (Some p) (Some q)
    (for_one g.V.BusView.told g.V.BusView.registry_of g.G.Gate.passes g.V.BusView.alone p q (λ (x : Peer). hearing key c.args.piece.now.items x x.stage) c.reserve.new.self.world c.hear.new.self.world came))
    (λ same. same_keeps (Some p) (Some q) (ap (λ (x : Peer). Some x) same))
    in
    index_at c.self.inside.peers.slots c.self.inside.key_of_slot key (Some p) (Some q) (sym there) keeps c.self.invariant

pub returns-clause-comes : goal.returns-clause-comes
returns-clause-comes g c =
    let told = g.V.BusView.told in
    let registry_of = g.V.BusView.registry_of in
    let passes = g.G.Gate.passes in
    let alone = g.V.BusView.alone in
    let key = c.args.key in
    let work = λ (x : Peer). hearing key c.args.piece.now.items x x.stage in
    let slab = c.self.inside.peers in
    let due = c.self.inside.due_leaves.items in
    let login = c.self.inside.login in
    let p = c.in-Some.peer.now in
    let q = c.hear.new.peer in
    let w = c.self.inside.context.world in
    let v = c.hear.new.self.world in
    let there : get slab key ≡ Some p = sym c.get_mut.ensures.value ∙ ap option_copied_mut c.in-Some.is in
    let t = standing_of (record slab { slots = set slab.slots key (Some q) }) due login in
    on_ok_weaker c.hear.result
    (λ heard.
    let here = subst (λ (k : World g.row.V-Note.Denot g.row.G.Denot). Comes told registry_of passes alone (work p) k q v) c.reserve.ensures.world heard in
    subst (λ (k : Table g.row.V-Note.Denot g.row.G.Denot). Comes told registry_of passes alone (for_peer k.standing key (peer_at k.standing key) work) k.work.world t v) c.self.view_is
    (for_there slab due login key told registry_of passes alone p q there work w v here))
    c.hear.ensures.comes

pub returns-in_default-clause-comes : goal.returns-in_default-clause-comes
returns-in_default-clause-comes g c =
    let key = c.args.key in
    let work = λ (x : Peer). hearing key c.args.piece.now.items x x.stage in
    let slab = c.self.inside.peers in
    let due = c.self.inside.due_leaves.items in
    let login = c.self.inside.login in
    let s = standing_of slab due login in
    let w = c.self.inside.context.world in
    let none : get slab key ≡ None = sym c.get_mut.ensures.value ∙ ap option_copied_mut c.in_default.is in
    subst (λ (k : Table g.row.V-Note.Denot g.row.G.Denot). RunsTo g.V.BusView g.G.Gate (for_peer k.standing key (peer_at k.standing key) work) k.work.world s w) c.self.view_is
    (for_nobody slab due login key g.V.BusView.told g.V.BusView.registry_of g.G.Gate.passes g.V.BusView.alone none work w)
