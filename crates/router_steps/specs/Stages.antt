-- How far a connection has come, and what is unread of it, in the terms of the definitions.
use Rattle.std.specs.Prelude.{◌≡◌, ℕ, List, []}
use Rattle.router_core.specs.Standing.{Stage as Stands, Authenticating, Unnamed, Named, Closing}
use Rattle.router_steps.specs.declared.peer.Stage.{Stage}
use Rattle.router_steps.specs.declared.peer.Stage.TheVariants as stage

abbrev pub stage_of : Stage → Stands
stage_of (stage.Authenticating server) = Authenticating server.value.setting server.value.state
stage_of (stage.Unnamed privileged) = Unnamed privileged
stage_of (stage.Named conn) = Named conn
stage_of (stage.Closing conn) = Closing conn

-- The line that has no end yet, or the bytes of its messages.
abbrev pub unread_at : Stage → (messages : List ℕ) → List ℕ
unread_at (stage.Authenticating server) messages = server.value.unfinished
unread_at (stage.Unnamed privileged) messages = messages
unread_at (stage.Named conn) messages = messages
unread_at (stage.Closing conn) messages = messages

-- While it says who it is, no bytes of messages are there.
abbrev pub IsSilentAt : Stage → (messages : List ℕ) → Type 0
IsSilentAt (stage.Authenticating server) messages = messages ≡ []
IsSilentAt (stage.Unnamed privileged) messages = Unit {0}
IsSilentAt (stage.Named conn) messages = Unit {0}
IsSilentAt (stage.Closing conn) messages = Unit {0}

-- It is a connection's that has sent nothing.
abbrev pub IsFirst : Stage → Type 0
IsFirst (stage.Authenticating server) = server.value.unfinished ≡ []
IsFirst (stage.Unnamed privileged) = Unit {0}
IsFirst (stage.Named conn) = Unit {0}
IsFirst (stage.Closing conn) = Unit {0}
