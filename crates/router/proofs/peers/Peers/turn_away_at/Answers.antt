use Rattle.std.proofs.Common.{Option, Some, IfSome, set, sym, subst}
use Rattle.slab.specs.Slab.{get}
use Rattle.seq_bus_core.specs.declared.error_kind.ErrorKind.TheVariants.{LimitsExceeded}
use Rattle.message_core.specs.Said.{said}
use Rattle.router_core.specs.Events.{for_peer, dismissal}
use Rattle.router_core.specs.Scripts.{RunsTo}
use Rattle.router_core.specs.Standing.{Peer, next_serial, peer_at}
use Rattle.router_steps.specs.Refusing.{IsRefusal}
use Rattle.router.specs.Indexed.{IsNameless}
use Rattle.router.specs.Tables.{Table}
use Rattle.router.proofs.HelloAnswers.{nameless_peer}
use Rattle.router.proofs.Indexing.{index_without}
use Rattle.router.proofs.Keeping.{turned_away_has_none}
use Rattle.router.proofs.Slabs.{for_one, for_there, is_there, standing_of, stands, stood}
use Rattle.router.proofs.peers.Peers.turn_away_at.Goals as goal

pub index_mut-requires : goal.index_mut-requires
index_mut-requires g c =
    let key = c.args.key in
    let slab = c.self.inside.peers in
    let due = c.self.inside.due_leaves.items in
    let login = c.self.inside.login in
    let nameless = subst (λ (k : Table g.row.V-Note.Denot g.row.G.Denot). IsNameless (peer_at k.standing key)) (sym c.self.view_is) c.requires.nameless in
    let found = nameless_peer (peer_at (standing_of slab due login) key) nameless in
    is_there (get slab key) found.0 (stood slab due login key (Some found.0) found.1)

pub turn_away-requires-clause-written : goal.turn_away-requires-clause-written
turn_away-requires-clause-written g c =
    let key = c.args.key in
    let slab = c.self.inside.peers in
    let Is = λ (o : Option Peer). IfSome o (λ (x : Peer). IsRefusal (said c.args.hello.now) LimitsExceeded (next_serial x.serial) c.args.bytes) in
    let all = subst (λ (k : Table g.row.V-Note.Denot g.row.G.Denot). Is (peer_at k.standing key)) (sym c.self.view_is) c.requires.written in
    subst Is (stands slab c.self.inside.due_leaves.items c.self.inside.login key (Some c.index_mut.result.now) c.index_mut.ensures.value) all

pub returns-clause-comes : goal.returns-clause-comes
returns-clause-comes g c =
    let key = c.args.key in
    let slab = c.self.inside.peers in
    let due = c.self.inside.due_leaves.items in
    let login = c.self.inside.login in
    let p = c.index_mut.result.now in
    let q = c.turn_away.new.peer in
    let w = c.self.inside.context.world in
    let v = c.turn_away.new.self.world in
    let t = standing_of (record slab { slots = set slab.slots key (Some q) }) due login in
    let work = dismissal key (said c.args.hello.now) in
    subst (λ (k : Table g.row.V-Note.Denot g.row.G.Denot). RunsTo g.V.BusView g.G.Gate (for_peer k.standing key (peer_at k.standing key) work) k.work.world t v) c.self.view_is
    (for_there slab due login key g.V.BusView.told g.V.BusView.registry_of g.G.Gate.passes g.V.BusView.alone p q c.index_mut.ensures.value work w v c.turn_away.ensures)

pub invariant_of-self : goal.invariant_of-self
invariant_of-self g c =
    let told = g.V.BusView.told in
    let registry_of = g.V.BusView.registry_of in
    let passes = g.G.Gate.passes in
    let alone = g.V.BusView.alone in
    let key = c.args.key in
    let m = said c.args.hello.now in
    let p = c.index_mut.result.now in
    let q = c.turn_away.new.peer in
    let w = c.self.inside.context.world in
    let v = c.turn_away.new.self.world in
    let without = turned_away_has_none told registry_of passes alone w v key m (Some p) (Some q) (for_one told registry_of passes alone p q (dismissal key m) w v c.turn_away.ensures) in
    index_without c.self.inside.peers.slots c.self.inside.key_of_slot key (Some q) without c.self.invariant
