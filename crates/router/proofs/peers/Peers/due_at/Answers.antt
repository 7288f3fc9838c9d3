use Rattle.std.proofs.Common.{◌≡◌, Some, None, Option, IfSome, set, sym, ap, ◌∙◌, subst}
use Rattle.std.specs.Option.{option_copied_mut}
use Rattle.std.proofs.lemmas.Result.{IfOk-weaker}
use Rattle.slab.specs.Slab.{get}
use Rattle.router_core.specs.Standing.{Peer, peer_at}
use Rattle.router_steps.specs.Quiet.{IsQuiet}
use Rattle.router.specs.Dues.{IsDueAt}
use Rattle.router.specs.Tables.{Table}
use Rattle.router.proofs.Gatherings.{due_keeps, due_stands}
use Rattle.router.proofs.Indexing.{index_at, same_keeps, if_ok_or_err}
use Rattle.router.proofs.Slabs.{standing_of, stands}
use Rattle.router.proofs.peers.Peers.due_at.Goals as goal

pub invariant_of-self-2 : goal.invariant_of-self-2
invariant_of-self-2 g c =
    let key = c.args.key in
    let p = c.in-Some.peer.now in
    let q = c.due_of.new.peer in
    let there : get c.self.inside.peers key ≡ Some p = sym c.get_mut.ensures.value ∙ ap option_copied_mut c.in-Some.is in
    let keeps = if_ok_or_err c.due_of.result c.due_of.ensures.due c.due_of.ensures.err (λ next is. due_keeps next p q is) (λ same. same_keeps (Some p) (Some q) (ap (λ (x : Peer). Some x) same)) in
    index_at c.self.inside.peers.slots c.self.inside.key_of_slot key (Some p) (Some q) (sym there) keeps c.self.invariant

pub returns-clause-due : goal.returns-clause-due
returns-clause-due g c =
    let key = c.args.key in
    let slab = c.self.inside.peers in
    let due = c.self.inside.due_leaves.items in
    let login = c.self.inside.login in
    let p = c.in-Some.peer.now in
    let q = c.due_of.new.peer in
    let there : get slab key ≡ Some p = sym c.get_mut.ensures.value ∙ ap option_copied_mut c.in-Some.is in
    let t = standing_of (record slab { slots = set slab.slots key (Some q) }) due login in
    IfOk-weaker c.due_of.result _ _
    (λ next is. subst (λ (k : Table g.row.V-Note.Denot g.row.G.Denot). IsDueAt next key k.standing t) c.self.view_is (due_stands next slab due login key p q there is))
    c.due_of.ensures.due

pub returns-in_default-clause-due : goal.returns-in_default-clause-due
returns-in_default-clause-due g c =
    let slab = c.self.inside.peers in
    let due = c.self.inside.due_leaves.items in
    let login = c.self.inside.login in
    let none = stands slab due login c.args.key None (sym c.get_mut.ensures.value ∙ ap option_copied_mut c.in_default.is) in
    let quiet = subst (λ (k : Table g.row.V-Note.Denot g.row.G.Denot). IfSome (peer_at k.standing c.args.key) IsQuiet) c.self.view_is (subst (λ (o : Option Peer). IfSome o IsQuiet) (sym none) tt) in
    (quiet, ap (λ (k : Table g.row.V-Note.Denot g.row.G.Denot). k.standing) c.self.view_is)
