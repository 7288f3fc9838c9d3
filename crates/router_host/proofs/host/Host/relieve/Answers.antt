use Rattle.std.proofs.Common.{[], ◌∷◌, refl}
use Rattle.router_host.proofs.Doings.{does_flush}
use Rattle.router_host.proofs.host.Host.relieve.Goals as goal

pub returns-then-not-is_blocked-clause-does : goal.returns-then-not-is_blocked-clause-does
returns-then-not-is_blocked-clause-does g c =
    rw (← c.self.view_is, ← c.self-inside.view_is) (does_flush (c.in-Some.key ∷ []) (c.flush.new.self, c.flush.ensures, refl))
