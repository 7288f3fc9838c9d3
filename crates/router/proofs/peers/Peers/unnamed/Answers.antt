use Rattle.std.proofs.Common.{◌≡◌, ◌∙◌, count_by, refl, sym, subst}
use Rattle.router_core.specs.Standing.{is_unnamed}
use Rattle.router_core.proofs.Trimmed.{count-trimmed}
use Rattle.router.specs.Tables.{Table}
use Rattle.router.proofs.peers.Peers.unnamed.Goals as goal

pub returns : goal.returns
returns g c =
    let slots = c.self.inside.peers.slots in
    subst (λ (k : Table g.row.V-Note.Denot g.row.G.Denot). c.count_unnamed.result ≡ count_by is_unnamed k.standing.peers) c.self.view_is (c.count_unnamed.ensures ∙ sym (count-trimmed is_unnamed refl slots))
