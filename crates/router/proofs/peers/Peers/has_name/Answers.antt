use Rattle.std.proofs.Common.{◌≡◌, Some, None, false, sym, ap, ◌∙◌, subst}
use Rattle.std.specs.Prelude.{option_copied}
use Rattle.router_core.specs.Standing.{peer_at}
use Rattle.router.specs.Named.{is_named}
use Rattle.router.specs.Tables.{Table}
use Rattle.router.proofs.Slabs.{stands}
use Rattle.router.proofs.peers.Peers.has_name.Goals as goal

pub returns-in-None : goal.returns-in-None
returns-in-None g c =
    let slab = c.self.inside.peers in
    let due = c.self.inside.due_leaves.items in
    let login = c.self.inside.login in
    let none = stands slab due login c.args.key None (sym c.get.ensures ∙ ap option_copied c.in-None.is) in
    subst (λ (k : Table g.row.V-Note.Denot g.row.G.Denot). false ≡ is_named (peer_at k.standing c.args.key)) c.self.view_is (sym (ap is_named none))

pub returns-in-Some : goal.returns-in-Some
returns-in-Some g c =
    let slab = c.self.inside.peers in
    let due = c.self.inside.due_leaves.items in
    let login = c.self.inside.login in
    let there = stands slab due login c.args.key (Some c.in-Some.peer.now) (sym (ap option_copied (sym c.in-Some.is) ∙ c.get.ensures)) in
    subst (λ (k : Table g.row.V-Note.Denot g.row.G.Denot). c.is_named.result ≡ is_named (peer_at k.standing c.args.key)) c.self.view_is (c.is_named.ensures ∙ sym (ap is_named there))
