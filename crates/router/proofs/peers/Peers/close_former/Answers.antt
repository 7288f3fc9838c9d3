use Rattle.std.proofs.Common.{◌≡◌, ◌≢◌, Option, Some, None, true, false, position, set, refl, sym, ap, ◌∙◌, subst}
use Rattle.std.proofs.lemmas.Bool.{false≢true}
use Rattle.std.proofs.lemmas.List.{get_or-set_other}
use Rattle.std.proofs.lemmas.List.Quantifiers.{position-Some}
use Rattle.slab.specs.Slab.{get}
use Rattle.router_core.specs.declared.cause.CloseCause.TheVariants.{Left}
use Rattle.router_core.specs.Events.{closing, for_entry, closing_former}
use Rattle.router_core.specs.Scripts.{Comes}
use Rattle.router_core.specs.Standing.{Peer, Standing, has_slot, peer_at}
use Rattle.router.specs.Tables.{Table}
use Rattle.router.specs.Indexed.{IsVacant}
use Rattle.router.proofs.HelloAnswers.{closes_former}
use Rattle.router.proofs.Indexing.{index_without, slot_there, vacant_closed, vacant_trimmed, vacant_unfound}
use Rattle.router.proofs.Keeping.{closed_has_none}
use Rattle.router.proofs.Slabs.{for_one, is_there, standing_of, stands, stood, written}
use Rattle.router.proofs.peers.Peers.close_former.Goals as goal

pub index_mut-requires : goal.index_mut-requires
index_mut-requires g c =
    let slot = c.args.conn.slot in
    let test = has_slot slot in
    let slab = c.self.inside.peers in
    let s = standing_of slab c.self.inside.due_leaves.items c.self.inside.login in
    let some : position test s.peers ≡ Some c.in-Some.key = sym c.in-Some.ensures in
    let found = slot_there slot (peer_at s c.in-Some.key) (position-Some test s.peers c.in-Some.key None some).1 in
    is_there (get slab c.in-Some.key) found.0 (stood slab c.self.inside.due_leaves.items c.self.inside.login c.in-Some.key (Some found.0) found.1)

pub returns-in-Some-clause-comes : goal.returns-in-Some-clause-comes
returns-in-Some-clause-comes g c =
    let told = g.V.BusView.told in
    let registry_of = g.V.BusView.registry_of in
    let passes = g.G.Gate.passes in
    let alone = g.V.BusView.alone in
    let conn = c.args.conn in
    let test = has_slot conn.slot in
    let key = c.in-Some.key in
    let slab = c.self.inside.peers in
    let due = c.self.inside.due_leaves.items in
    let login = c.self.inside.login in
    let s = standing_of slab due login in
    let w = c.self.inside.context.world in
    let v = c.close_peer.new.self.world in
    let p = c.index_mut.result.now in
    let q = c.close_peer.new.peer in
    let t = standing_of (record slab { slots = set slab.slots key (Some q) }) due login in
    let some : position test s.peers ≡ Some key = sym c.in-Some.ensures in
    let there : get slab key ≡ Some p = c.index_mut.ensures.value in
    let work = λ (x : Peer). closing key Left x in
    let entry = for_one told registry_of passes alone p q work w v c.close_peer.ensures.comes in
    let found = subst (λ (o : Option Peer). Comes told registry_of passes alone (for_entry o work) w (Some q) v) (sym (stands slab due login key (Some p) there)) entry in
    let done = closes_former told registry_of passes alone s conn key (Some q) w v some found in
    let is = subst (λ (x : Standing). Comes told registry_of passes alone (closing_former s conn) w x v) (written slab due login key p q there) done in
    subst (λ (k : Table g.row.V-Note.Denot g.row.G.Denot). Comes told registry_of passes alone (closing_former k.standing conn) k.work.world t v) c.self.view_is is

pub invariant_of-self : goal.invariant_of-self
invariant_of-self g c =
    let key = c.in-Some.key in
    let p = c.index_mut.result.now in
    let q = c.close_peer.new.peer in
    let work = λ (x : Peer). closing key Left x in
    let w = c.self.inside.context.world in
    let v = c.close_peer.new.self.world in
    let entry = for_one g.V.BusView.told g.V.BusView.registry_of g.G.Gate.passes g.V.BusView.alone p q work w v c.close_peer.ensures.comes in
    let gone = closed_has_none g.V.BusView.told g.V.BusView.registry_of g.G.Gate.passes g.V.BusView.alone w v key Left (Some p) (Some q) entry in
    index_without c.self.inside.peers.slots c.self.inside.key_of_slot key (Some q) gone c.self.invariant

pub returns-in-Some-clause-vacant : goal.returns-in-Some-clause-vacant
returns-in-Some-clause-vacant g c =
    let conn = c.args.conn in
    let test = has_slot conn.slot in
    let key = c.in-Some.key in
    let slab = c.self.inside.peers in
    let due = c.self.inside.due_leaves.items in
    let login = c.self.inside.login in
    let s = standing_of slab due login in
    let p = c.index_mut.result.now in
    let q = c.close_peer.new.peer in
    let w = c.self.inside.context.world in
    let v = c.close_peer.new.self.world in
    let some : position test s.peers ≡ Some key = sym c.in-Some.ensures in
    let has_it : test (peer_at s key) ≡ true = (position-Some test s.peers key None some).1 in
    let has : test (get slab key) ≡ true = ap test (sym (stands slab due login key (get slab key) refl)) ∙ has_it in
    let entry = for_one g.V.BusView.told g.V.BusView.registry_of g.G.Gate.passes g.V.BusView.alone p q (λ (x : Peer). closing key Left x) w v c.close_peer.ensures.comes in
    let gone = closed_has_none g.V.BusView.told g.V.BusView.registry_of g.G.Gate.passes g.V.BusView.alone w v key Left (Some p) (Some q) entry in
    vacant_trimmed conn.slot (set slab.slots key (Some q)) (vacant_closed conn.slot key (Some q) slab.slots c.self.inside.key_of_slot c.self.invariant has gone)

pub returns-in-Some-clause-others : goal.returns-in-Some-clause-others
returns-in-Some-clause-others g c key isnt =
    let test = has_slot c.args.conn.slot in
    let former = c.in-Some.key in
    let slab = c.self.inside.peers in
    let due = c.self.inside.due_leaves.items in
    let login = c.self.inside.login in
    let s = standing_of slab due login in
    let p = c.index_mut.result.now in
    let q = c.close_peer.new.peer in
    let some : position test s.peers ≡ Some former = sym c.in-Some.ensures in
    let has : test (peer_at s former) ≡ true = (position-Some test s.peers former None some).1 in
    let isnt_here = subst (λ (k : Table g.row.V-Note.Denot g.row.G.Denot). test (peer_at k.standing key) ≡ false) (sym c.self.view_is) isnt in
    let other : key ≢ former = λ e. false≢true (sym isnt_here ∙ ap (λ k. test (peer_at s k)) e ∙ has) in
    let same = subst (λ (x : Standing). peer_at x key ≡ peer_at s key) (written slab due login former p q c.index_mut.ensures.value) (get_or-set_other s.peers former key (Some q) None other) in
    let t = standing_of (record slab { slots = set slab.slots former (Some q) }) due login in
    subst (λ (k : Table g.row.V-Note.Denot g.row.G.Denot). peer_at t key ≡ peer_at k.standing key) c.self.view_is same

pub returns-in_default-clause-vacant : goal.returns-in_default-clause-vacant
returns-in_default-clause-vacant g c =
    let conn = c.args.conn in
    let test = has_slot conn.slot in
    let s = standing_of c.self.inside.peers c.self.inside.due_leaves.items c.self.inside.login in
    let none : position test s.peers ≡ None = sym c.in_default.ensures in
    subst (λ (k : Table g.row.V-Note.Denot g.row.G.Denot). IsVacant conn.slot k.standing.peers) c.self.view_is (vacant_unfound conn.slot s.peers none)
