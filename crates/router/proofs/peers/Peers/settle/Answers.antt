use Rattle.std.proofs.Common.{◌≡◌, true, Some, set, sym, subst, ap, ◌∙◌}
use Rattle.slab.specs.Slab.{get}
use Rattle.router_core.specs.Events.{work_for}
use Rattle.router_core.specs.Scripts.{Comes}
use Rattle.router_core.specs.Standing.{Standing, peer_at}
use Rattle.router.specs.Named.{is_named}
use Rattle.router.specs.Tables.{Table}
use Rattle.router.proofs.Indexing.{index_at}
use Rattle.router.proofs.Slabs.{is_there, standing_of, stands, stood, written}
use Rattle.router.proofs.Turnings.{named_peer, settles, settled_keeps}
use Rattle.router.proofs.peers.Peers.settle.Goals as goal

pub index_mut-requires : goal.index_mut-requires
index_mut-requires g c =
    let key = c.args.key in
    let slab = c.self.inside.peers in
    let due = c.self.inside.due_leaves.items in
    let login = c.self.inside.login in
    let named = subst (λ (k : Table g.row.V-Note.Denot g.row.G.Denot). is_named (peer_at k.standing key) ≡ true) (sym c.self.view_is) c.requires.named in
    let found = named_peer (peer_at (standing_of slab due login) key) named in
    is_there (get slab key) found.0 (stood slab due login key (Some found.0) found.1)

pub returns-clause-comes : goal.returns-clause-comes
returns-clause-comes g c work w served =
    let told = g.V.BusView.told in
    let registry_of = g.V.BusView.registry_of in
    let passes = g.G.Gate.passes in
    let alone = g.V.BusView.alone in
    let key = c.args.key in
    let slab = c.self.inside.peers in
    let due = c.self.inside.due_leaves.items in
    let login = c.self.inside.login in
    let s = standing_of slab due login in
    let m = c.self.inside.context.world in
    let v = c.settle.new.self.world in
    let p = c.index_mut.result.now in
    let q = c.settle.new.peer in
    let t = standing_of (record slab { slots = set slab.slots key (Some q) }) due login in
    let there : get slab key ≡ Some p = c.index_mut.ensures.value in
    let here : peer_at s key ≡ Some p = stands slab due login key (Some p) there in
    let named = subst (λ (k : Table g.row.V-Note.Denot g.row.G.Denot). is_named (peer_at k.standing key) ≡ true) (sym c.self.view_is) c.requires.named in
    let begun = subst (λ (k : Table g.row.V-Note.Denot g.row.G.Denot). Comes told registry_of passes alone work w c.args.fate k.work.world) (sym c.self.view_is) served in
    let done = settles g.V.BusView g.G.Gate s key work c.args.fate p q w m v (ap is_named (sym here) ∙ named) here begun c.settle.ensures.comes in
    let is = subst (λ (x : Standing). Comes told registry_of passes alone (work_for s key work) w x v) (written slab due login key p q there) done in
    subst (λ (k : Table g.row.V-Note.Denot g.row.G.Denot). Comes told registry_of passes alone (work_for k.standing key work) w t v) c.self.view_is is

pub invariant_of-self : goal.invariant_of-self
invariant_of-self g c =
    let p = c.index_mut.result.now in
    let q = c.settle.new.peer in
    index_at c.self.inside.peers.slots c.self.inside.key_of_slot c.args.key (Some p) (Some q) (sym c.index_mut.ensures.value)
    (settled_keeps g.V.BusView g.G.Gate c.args.key c.args.fate p q c.self.inside.context.world c.settle.new.self.world c.settle.ensures.comes) c.self.invariant
