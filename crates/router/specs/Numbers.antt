-- The numbers that connections have.
use Rattle.std.specs.Prelude.{ℕ, Option, None, Some, option_map}
use Rattle.router_core.specs.Standing.{Peer, Standing, peer_at, conn_of}

abbrev pub number_in : Option Peer → Option ℕ
number_in None = None
number_in (Some p) = option_map (λ conn. conn.number) (conn_of p.stage)

-- the number of the connection of a key, once its Hello gave it one; a closed one keeps it until it is gone
abbrev pub number_at : Standing → ℕ → Option ℕ
number_at s key = number_in (peer_at s key)
