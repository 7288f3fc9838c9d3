use Rattle.std.proofs.Common.{refl}
use Rattle.router_host.proofs.Doings.{does_same}
use Rattle.router_host.proofs.host.Host.close_in_turn.Goals as goal

pub returns-then-is_behind-clause-does : goal.returns-then-is_behind-clause-does
returns-then-is_behind-clause-does g c =
    does_same (rw (← c.self.view_is, ← c.self-inside.view_is, c.let_go_later.ensures) refl)
