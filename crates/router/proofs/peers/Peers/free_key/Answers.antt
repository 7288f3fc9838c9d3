use Rattle.std.proofs.Common.{subst, ◌∙◌}
use Rattle.router_core.specs.Standing.{IsFree}
use Rattle.router_core.proofs.Trimmed.{get-trimmed}
use Rattle.router.specs.Tables.{Table}
use Rattle.router.proofs.peers.Peers.free_key.Goals as goal

pub returns-clause-free : goal.returns-clause-free
returns-clause-free g c =
    subst (λ (k : Table g.row.V-Note.Denot g.row.G.Denot). IsFree k.standing c.vacant_key.result) c.self.view_is (get-trimmed c.self.inside.peers.slots c.vacant_key.result ∙ c.vacant_key.ensures.vacant)
