use Rattle.std.proofs.Common.{◌≡◌, true, false, Option, None, sym, ap, subst, ◌∙◌, refl}
use Rattle.std.proofs.lemmas.Bool.{false≢true}
use Rattle.router_core.specs.Events.{Gathered, gathering}
use Rattle.router_core.specs.Scripts.{World, Comes}
use Rattle.router_core.specs.Standing.{Peer, Standing, peer_at}
use Rattle.router_steps.specs.Work.{Work}
use Rattle.router.specs.Dues.{IsDueAt}
use Rattle.router.specs.declared.turn.Due.{Due}
use Rattle.router.specs.Tables.{Table}
use Rattle.router.proofs.Gatherings.{gathers_call, gathers_one}
use Rattle.router.proofs.Slabs.{nobody, standing_of, stands}
use Rattle.router.proofs.peers.Peers.gather.Goals as goal

pub returns-then-not-contains-clause-comes : goal.returns-then-not-contains-clause-comes
returns-then-not-contains-clause-comes g c =
    let told = g.V.BusView.told in
    let registry_of = g.V.BusView.registry_of in
    let passes = g.G.Gate.passes in
    let alone = g.V.BusView.alone in
    let key = c.args.key in
    let joints = c.args.joints.now.items in
    let slab = c.self.inside.peers in
    let s = standing_of slab c.self.inside.due_leaves.items c.self.inside.login in
    let w = c.self.inside.context.world in
    let none : peer_at s key ≡ None = stands slab c.self.inside.due_leaves.items c.self.inside.login key None (nobody _ (λ there. false≢true (sym c.if-not-contains.true ∙ c.contains.ensures.1 there))) in
    let idle = λ (t : Standing). let end : Gathered = record { joints = joints; standing = t; served = false } in end in
    let done = subst (λ (o : Option Peer). Comes told registry_of passes alone (gathering joints s key o) w (idle s) w) (sym none) (refl, refl) in
    subst (λ (k : Table g.row.V-Note.Denot g.row.G.Denot). Comes told registry_of passes alone (gathering joints k.standing key (peer_at k.standing key)) k.work.world (idle k.standing) k.work.world) c.self.view_is done

pub returns-in_ok-serve_apart-in-Ok-Apart-clause-comes : goal.returns-in_ok-serve_apart-in-Ok-Apart-clause-comes
returns-in_ok-serve_apart-in-Ok-Apart-clause-comes g c =
    let told = g.V.BusView.told in
    let registry_of = g.V.BusView.registry_of in
    let passes = g.G.Gate.passes in
    let alone = g.V.BusView.alone in
    let key = c.args.key in
    let joints = c.args.joints.now.items in
    let s = c.make_room.new.self.standing in
    let t = c.due_at.new.self.standing in
    let v = c.serve_apart.new.self.work.world in
    let end : Gathered = record { joints = c.serve_apart.new.joints.items; standing = c.serve_apart.new.self.standing; served = true } in
    let due = subst (λ (d : Due). IsDueAt d key s t) c.in-Ok-Apart.field-0-is c.in-Ok-Apart.ensures.due in
    let done = gathers_one told registry_of passes alone joints s t key c.due_at.new.self.work.world v end due c.in_ok-serve_apart-in-Ok-Apart.ensures.comes in
    let began = ap (λ (k : Work g.row.V-Note.Denot g.row.G.Denot). k.world) c.due_at.ensures.work ∙ c.make_room.ensures.world in
    let of_world = subst (λ (k : World g.row.V-Note.Denot g.row.G.Denot). Comes told registry_of passes alone (gathering joints s key (peer_at s key)) k end v) began done in
    subst (λ (x : Standing). Comes told registry_of passes alone (gathering joints x key (peer_at x key)) c.args.self.now.work.world end v) c.make_room.ensures.standing of_world

pub returns-in-Ok-Rule-clause-comes : goal.returns-in-Ok-Rule-clause-comes
returns-in-Ok-Rule-clause-comes g c =
    let told = g.V.BusView.told in
    let registry_of = g.V.BusView.registry_of in
    let passes = g.G.Gate.passes in
    let alone = g.V.BusView.alone in
    let key = c.args.key in
    let joints = c.args.joints.now.items in
    let s = c.make_room.new.self.standing in
    let t = c.due_at.new.self.standing in
    let v = c.join_one.new.self.work.world in
    let end : Gathered = record { joints = c.join_one.new.joints.items; standing = c.join_one.new.self.standing; served = true } in
    let due = subst (λ (d : Due). IsDueAt d key s t) c.in-Ok-Rule.field-0-is c.in-Ok-Rule.ensures.due in
    let done = gathers_call told registry_of passes alone joints s t key c.due_at.new.self.work.world v end c.in-Ok-Rule.conn c.in-Ok-Rule.message c.in-Ok-Rule.call due c.join_one.ensures.comes in
    let began = ap (λ (k : Work g.row.V-Note.Denot g.row.G.Denot). k.world) c.due_at.ensures.work ∙ c.make_room.ensures.world in
    let of_world = subst (λ (k : World g.row.V-Note.Denot g.row.G.Denot). Comes told registry_of passes alone (gathering joints s key (peer_at s key)) k end v) began done in
    subst (λ (x : Standing). Comes told registry_of passes alone (gathering joints x key (peer_at x key)) c.args.self.now.work.world end v) c.make_room.ensures.standing of_world
