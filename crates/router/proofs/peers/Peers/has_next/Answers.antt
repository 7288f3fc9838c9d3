use Rattle.std.proofs.Common.{Option, Some, None, IfSome, sym, ap, ◌∙◌, subst}
use Rattle.std.specs.Prelude.{option_copied}
use Rattle.router_core.specs.Standing.{Peer}
use Rattle.router_steps.specs.Quiet.{IsQuiet}
use Rattle.router.specs.Upcoming.{HasNoNext}
use Rattle.router.specs.Tables.{Table}
use Rattle.router.proofs.Slabs.{stands}
use Rattle.router.proofs.peers.Peers.has_next.Goals as goal

pub returns-in-None-clause-quiet : goal.returns-in-None-clause-quiet
returns-in-None-clause-quiet g c isnt =
    let slab = c.self.inside.peers in
    let due = c.self.inside.due_leaves.items in
    let login = c.self.inside.login in
    let none = stands slab due login c.args.key None (sym c.get.ensures ∙ ap option_copied c.in-None.is) in
    subst (λ (k : Table g.row.V-Note.Denot g.row.G.Denot). HasNoNext k.standing c.args.key) c.self.view_is (subst (λ (o : Option Peer). IfSome o IsQuiet) (sym none) tt)

pub returns-in-Some-clause-quiet : goal.returns-in-Some-clause-quiet
returns-in-Some-clause-quiet g c isnt =
    let slab = c.self.inside.peers in
    let due = c.self.inside.due_leaves.items in
    let login = c.self.inside.login in
    let there = stands slab due login c.args.key (Some c.in-Some.peer.now) (sym (ap option_copied (sym c.in-Some.is) ∙ c.get.ensures)) in
    subst (λ (k : Table g.row.V-Note.Denot g.row.G.Denot). HasNoNext k.standing c.args.key) c.self.view_is (subst (λ (o : Option Peer). IfSome o IsQuiet) (sym there) (c.has_next.ensures.quiet isnt))

pub returns-in-Some-clause-ready : goal.returns-in-Some-clause-ready
returns-in-Some-clause-ready g c is quiet =
    let slab = c.self.inside.peers in
    let due = c.self.inside.due_leaves.items in
    let login = c.self.inside.login in
    let there = stands slab due login c.args.key (Some c.in-Some.peer.now) (sym (ap option_copied (sym c.in-Some.is) ∙ c.get.ensures)) in
    let here = subst (λ (k : Table g.row.V-Note.Denot g.row.G.Denot). HasNoNext k.standing c.args.key) (sym c.self.view_is) quiet in
    c.has_next.ensures.ready is (subst (λ (o : Option Peer). IfSome o IsQuiet) there here)
