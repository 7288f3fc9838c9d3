use Rattle.std.proofs.Common.{◌≡◌, List, ℕ, Option, Some, None, sym, ap, ◌∙◌, subst}
use Rattle.seq_bus_core.specs.declared.connection.Conn.{Conn}
use Rattle.router_core.specs.Events.{leaving_of, removing}
use Rattle.router_core.specs.Scripts.{World, Comes, RunsTo}
use Rattle.router_core.specs.Standing.{Peer, Standing, peer_at, without_peer, trimmed, conn_of}
use Rattle.router_core.proofs.Trimmed.{trimmed-vacated}
use Rattle.router.specs.NextKeys.{key_after}
use Rattle.router.specs.Tables.{Keys, Table}
use Rattle.router.specs.Indexed.{IsIndexed}
use Rattle.router.proofs.Indexing.{index_without}
use Rattle.router.proofs.Slabs.{stands, standing_of}
use Rattle.router.proofs.peers.Peers.close.Goals as goal

pub invariant_of-self-2 : goal.invariant_of-self-2
invariant_of-self-2 g c =
    let key_of_slot = c.self.inside.key_of_slot in
    subst (λ peers. IsIndexed peers key_of_slot) (sym c.in-Some.ensures.slots) (index_without c.self.inside.peers.slots key_of_slot c.args.key None (λ slot has. has) c.self.invariant)

pub returns-clause-comes : goal.returns-clause-comes
returns-clause-comes g c =
    let told = g.V.BusView.told in
    let registry_of = g.V.BusView.registry_of in
    let passes = g.G.Gate.passes in
    let alone = g.V.BusView.alone in
    let key = c.args.key in
    let p : Peer = c.in-Some.peer in
    let slab = c.self.inside.peers in
    let s = standing_of slab c.self.inside.due_leaves.items c.self.inside.login in
    let n : Standing = record s { peers = trimmed c.try_remove.new.self.slots } in
    let t : Standing = record n { due_leaves = c.leave_of.new.due_leaves.items } in
    let w = c.self.inside.context.world in
    let v = c.leave_of.new.self.world in
    let conn : c.conn.result ≡ conn_of p.stage = c.conn.ensures ∙ ap conn_of c.stage.ensures in
    let vacated_is = ap (λ (os : List (Option Peer)). trimmed os) c.in-Some.ensures.slots ∙ trimmed-vacated slab.slots key in
    let gone : n ≡ without_peer s key = λ i. record s { peers = vacated_is i } in
    let there : peer_at s key ≡ Some p = stands slab c.self.inside.due_leaves.items c.self.inside.login key (Some p) (sym c.try_remove.ensures.value ∙ c.in-Some.is) in
    let of_leaves = subst (λ (leaves : List ℕ). Comes told registry_of passes alone (leaving_of (record n { due_leaves = leaves }) c.conn.result) c.reserve.new.self.world t v) c.reserve-2.ensures.items (c.leave_of.ensures.comes n) in
    let of_world = subst (λ (k : World g.row.V-Note.Denot g.row.G.Denot). Comes told registry_of passes alone (leaving_of n c.conn.result) k t v) c.reserve.ensures.world of_leaves in
    let of_conn = subst (λ (o : Option Conn). Comes told registry_of passes alone (leaving_of n o) w t v) conn of_world in
    let of_peers = subst (λ (x : Standing). Comes told registry_of passes alone (leaving_of x (conn_of p.stage)) w t v) gone of_conn in
    let closes = subst (λ (o : Option Peer). Comes told registry_of passes alone (removing s key o) w t v) (sym there) of_peers in
    subst (λ (k : Table g.row.V-Note.Denot g.row.G.Denot). Comes told registry_of passes alone (removing k.standing key (peer_at k.standing key)) k.work.world t v) c.self.view_is closes

pub returns-in_default-clause-comes : goal.returns-in_default-clause-comes
returns-in_default-clause-comes g c =
    let key = c.args.key in
    let slab = c.self.inside.peers in
    let s = standing_of slab c.self.inside.due_leaves.items c.self.inside.login in
    let w = c.self.inside.context.world in
    let t : Standing = record { peers = trimmed c.try_remove.new.self.slots; due_leaves = c.reserve-2.new.self.items; login = c.self.inside.login } in
    let none : peer_at s key ≡ None = stands slab c.self.inside.due_leaves.items c.self.inside.login key None (sym c.try_remove.ensures.value ∙ c.in_default.is) in
    let same : t ≡ s = λ i. record { peers = trimmed (c.in_default.ensures.absent i).slots; due_leaves = c.reserve-2.ensures.items i; login = c.self.inside.login } in
    let done = subst (λ (o : Option Peer). RunsTo g.V.BusView g.G.Gate (removing s key o) w t c.reserve.new.self.world) (sym none) (same, c.reserve.ensures.world) in
    subst (λ (k : Table g.row.V-Note.Denot g.row.G.Denot). RunsTo g.V.BusView g.G.Gate (removing k.standing key (peer_at k.standing key)) k.work.world t c.reserve.new.self.world) c.self.view_is done

pub returns-in_default-clause-keys : goal.returns-in_default-clause-keys
returns-in_default-clause-keys g c =
    let key = c.args.key in
    let slab = c.self.inside.peers in
    let s = standing_of slab c.self.inside.due_leaves.items c.self.inside.login in
    let none : peer_at s key ≡ None = stands slab c.self.inside.due_leaves.items c.self.inside.login key None (sym c.try_remove.ensures.value ∙ c.in_default.is) in
    let after : Keys = record { next = c.try_remove.new.self.vacant_key; capacity = c.try_remove.new.self.capacity } in
    let same : after ≡ record { next = slab.vacant_key; capacity = slab.capacity } = λ i. record { next = (c.in_default.ensures.absent i).vacant_key; capacity = (c.in_default.ensures.absent i).capacity } in
    let is = same ∙ (λ i. record { next = key_after slab.vacant_key key (sym none i); capacity = slab.capacity }) in
    subst (λ (k : Table g.row.V-Note.Denot g.row.G.Denot). after ≡ record k.keys { next = key_after k.keys.next key (peer_at k.standing key) }) c.self.view_is is

pub returns-clause-keys : goal.returns-clause-keys
returns-clause-keys g c =
    let key = c.args.key in
    let slab = c.self.inside.peers in
    let s = standing_of slab c.self.inside.due_leaves.items c.self.inside.login in
    let there : peer_at s key ≡ Some c.in-Some.peer = stands slab c.self.inside.due_leaves.items c.self.inside.login key (Some c.in-Some.peer) (sym c.try_remove.ensures.value ∙ c.in-Some.is) in
    let after : Keys = record { next = c.try_remove.new.self.vacant_key; capacity = c.try_remove.new.self.capacity } in
    let same : after ≡ record { next = key; capacity = slab.capacity } = λ i. record { next = c.in-Some.ensures.key_is_next i; capacity = c.try_remove.ensures.capacity i } in
    let is = same ∙ (λ i. record { next = key_after slab.vacant_key key (sym there i); capacity = slab.capacity }) in
    subst (λ (k : Table g.row.V-Note.Denot g.row.G.Denot). after ≡ record k.keys { next = key_after k.keys.next key (peer_at k.standing key) }) c.self.view_is is
