-- What is unread of a connection, by how far it has come.
use Rattle.std.proofs.Common.{◌≡◌, ℕ, List, [], refl}
use Rattle.router_core.specs.Standing.{SpeaksDBus}
use Rattle.router_steps.specs.declared.peer.Stage.{Stage}
use Rattle.router_steps.specs.declared.peer.Stage.TheVariants as stage
use Rattle.router_steps.specs.Stages.{stage_of, unread_at, IsSilentAt, IsFirst}

-- a connection that has sent nothing
pub first_unread : (at : Stage) → IsFirst at → unread_at at [] ≡ []
first_unread (stage.Authenticating server) is = is
first_unread (stage.Unnamed privileged) is = refl
first_unread (stage.Named conn) is = refl
first_unread (stage.Closing conn) is = refl

pub nothing_silent : (at : Stage) → IsSilentAt at []
nothing_silent (stage.Authenticating server) = refl
nothing_silent (stage.Unnamed privileged) = tt
nothing_silent (stage.Named conn) = tt
nothing_silent (stage.Closing conn) = tt

-- one that has begun its messages
pub messages_unread : (at : Stage) (messages : List ℕ) → SpeaksDBus (stage_of at) → unread_at at messages ≡ messages
messages_unread (stage.Authenticating server) messages begun = absurd begun
messages_unread (stage.Unnamed privileged) messages begun = refl
messages_unread (stage.Named conn) messages begun = refl
messages_unread (stage.Closing conn) messages begun = refl

pub messages_silent : (at : Stage) (messages : List ℕ) → SpeaksDBus (stage_of at) → IsSilentAt at messages
messages_silent (stage.Authenticating server) messages begun = absurd begun
messages_silent (stage.Unnamed privileged) messages begun = tt
messages_silent (stage.Named conn) messages begun = tt
messages_silent (stage.Closing conn) messages begun = tt
