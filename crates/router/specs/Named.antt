-- Connections that have a name.
use Rattle.std.specs.Prelude.{Bool, true, false, Option, Some, None}
use Rattle.router_core.specs.Standing.{Stage, Authenticating, Unnamed, Named, Closing, Peer}

-- it is there, and has a name
abbrev pub is_named : Option Peer → Bool
is_named None = false
is_named (Some p) = is_in p.stage
  where
    is_in : Stage → Bool
    is_in (Named conn) = true
    is_in (Authenticating setting state) = false
    is_in (Unnamed privileged) = false
    is_in (Closing conn) = false
