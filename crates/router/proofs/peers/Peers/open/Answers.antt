use Rattle.std.proofs.Common.{◌≡◌, ◌<◌, Some, is_some, count_by, refl, sym, ap, ◌∙◌, subst, arith}
use Rattle.slab.specs.Slab.{Updates}
use Rattle.router_core.specs.Standing.{Peer, Standing, IsFree, newcomer, placed, trimmed}
use Rattle.router_core.proofs.Trimmed.{count-trimmed, get-trimmed}
use Rattle.router_steps.specs.Stages.{stage_of}
use Rattle.router.specs.Tables.{Table}
use Rattle.router.proofs.Indexing.{Keeps, index_kept, updates_keep}
use Rattle.router.proofs.Openings.{newcomer_keeps}
use Rattle.router.proofs.Slabs.{slab_opened, standing_of}
use Rattle.router.proofs.peers.Peers.open.Goals as goal

pub returns-clause-ok : goal.returns-clause-ok
returns-clause-ok g c =
    let slab = c.self.inside.peers in
    let s = standing_of slab c.self.inside.due_leaves.items c.self.inside.login in
    let after = c.insert.new.self in
    let now = c.args.self.now in
    let p = c.new-peer.result in
    let came : p ≡ newcomer _ = c.new-peer.ensures ∙ ap newcomer c.in_ok-first_stage.ensures.stage in
    let opened = slab_opened slab after slab.vacant_key p (subst (λ k. Updates slab after k (Some p)) c.in-Ok.ensures.key c.in-Ok.ensures.updates) in
    let t : Standing = record s { peers = trimmed after.slots } in
    let is : t ≡ record s { peers = placed s.peers slab.vacant_key p } = λ i. record s { peers = opened i } in
    subst (λ (k : Table g.row.V-Note.Denot g.row.G.Denot). t ≡ record k.standing { peers = placed k.standing.peers k.keys.next p }) c.self.view_is is
    ∙ ap (λ (x : Peer). let u : Standing = record now.standing { peers = placed now.standing.peers now.keys.next x } in u) came

pub returns-clause-free : goal.returns-clause-free
returns-clause-free g c =
    let after = c.insert.new.self in
    subst (λ k. IsFree (standing_of after c.self.inside.due_leaves.items c.self.inside.login) k) c.vacant_key-next.ensures.value
    (get-trimmed after.slots c.vacant_key-next.result ∙ c.vacant_key-next.ensures.vacant)

pub invariant_of-self-2 : goal.invariant_of-self-2
invariant_of-self-2 g c =
    let slab = c.self.inside.peers in
    let key_of_slot = c.self.inside.key_of_slot in
    let new = Some c.new-peer.result in
    let keeps = newcomer_keeps c.args.self.now.standing.login c.args.challenge (stage_of c.in_ok-first_stage.field-0) c.new-peer.result c.new-peer.ensures c.in_ok-first_stage.ensures.stage in
    let here = subst (λ o. Keeps o new) (sym c.in-Ok.ensures.was_vacant) keeps in
    index_kept slab.slots c.insert.new.self.slots key_of_slot (updates_keep slab c.insert.new.self c.in-Ok.field-0 new c.in-Ok.ensures.updates here) c.self.invariant

pub returns-clause-growth : goal.returns-clause-growth
returns-clause-growth g c =
    let slab = c.self.inside.peers in
    let few = count-trimmed is_some refl slab.slots in
    subst (λ (k : Table g.row.V-Note.Denot g.row.G.Denot). count_by is_some k.standing.peers < k.keys.capacity → c.insert.new.self.capacity ≡ k.keys.capacity) c.self.view_is
    (λ room. c.insert.ensures.had_room (omega (arith, room, few)))

pub returns-in_default-clause-growth : goal.returns-in_default-clause-growth
returns-in_default-clause-growth g c =
    let slab = c.self.inside.peers in
    let few = count-trimmed is_some refl slab.slots in
    subst (λ (k : Table g.row.V-Note.Denot g.row.G.Denot). count_by is_some k.standing.peers < k.keys.capacity → c.insert.new.self.capacity ≡ k.keys.capacity) c.self.view_is
    (λ room. c.insert.ensures.had_room (omega (arith, room, few)))
