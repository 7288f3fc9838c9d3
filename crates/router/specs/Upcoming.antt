-- Whether there is something to be served of a connection.
use Rattle.std.specs.Prelude.{ℕ, IfSome}
use Rattle.router_core.specs.Standing.{Standing, peer_at}
use Rattle.router_steps.specs.Quiet.{IsQuiet}

-- no connection has the key, or there is nothing of it to be served
abbrev pub HasNoNext : Standing → ℕ → Type 0
HasNoNext s key = IfSome (peer_at s key) IsQuiet
