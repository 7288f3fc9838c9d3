use Rattle.std.proofs.Common.{◌≡◌, ℕ, Option, Some, None, sym, ap, ◌∙◌, subst}
use Rattle.std.specs.Prelude.{option_copied}
use Rattle.router.specs.Numbers.{number_in, number_at}
use Rattle.router.specs.Tables.{Table}
use Rattle.router.proofs.Slabs.{stands}
use Rattle.router.proofs.peers.Peers.number_of.Goals as goal

pub returns-in-None : goal.returns-in-None
returns-in-None g c =
    let slab = c.self.inside.peers in
    let due = c.self.inside.due_leaves.items in
    let login = c.self.inside.login in
    let none = stands slab due login c.args.key None (sym c.get.ensures ∙ ap option_copied c.in-None.is) in
    let nobody : Option ℕ = None in
    subst (λ (k : Table g.row.V-Note.Denot g.row.G.Denot). nobody ≡ number_at k.standing c.args.key) c.self.view_is (sym (ap number_in none))

pub returns-in-Some : goal.returns-in-Some
returns-in-Some g c =
    let slab = c.self.inside.peers in
    let due = c.self.inside.due_leaves.items in
    let login = c.self.inside.login in
    let there = stands slab due login c.args.key (Some c.in-Some.peer.now) (sym (ap option_copied (sym c.in-Some.is) ∙ c.get.ensures)) in
    subst (λ (k : Table g.row.V-Note.Denot g.row.G.Denot). c.number_in.result ≡ number_at k.standing c.args.key) c.self.view_is (c.number_in.ensures ∙ sym (ap number_in there))
