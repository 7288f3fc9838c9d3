-- Whether there is nothing of a connection to be served.
use Rattle.router_core.specs.Incoming.{Waits, IsIncoming}
use Rattle.router_core.specs.Standing.{Stage, Authenticating, Closing, Peer}

abbrev pub IsQuietAt : Peer → Stage → Type 0
IsQuietAt p (Authenticating setting state) = Unit {0}
IsQuietAt p (Closing conn) = Unit {0}
IsQuietAt p stage = IsIncoming p.unread Waits

-- It says who it is, it was closed, or more of its bytes are wanted.
abbrev pub IsQuiet : Peer → Type 0
IsQuiet p = IsQuietAt p p.stage
