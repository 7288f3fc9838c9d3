-- What settling a change needs of memory.
use Rattle.std.specs.Prelude.{◌≡◌, ◌≤◌, ℕ, Option, Some, None, List, [], length}
use Rattle.seq_bus_core.specs.TicketRooms.{TicketRoom}
use Rattle.seq_bus_core.specs.declared.change.Change.{Change}
use Rattle.seq_bus_core.specs.declared.change.Change.TheVariants.{Hold}
use Rattle.seq_bus_core.specs.declared.outcome.NumberedOutcome.{NumberedOutcome}

-- room for the tickets that are settled, and the message of the call that may have to wait
pub record CallRoom : Type 0 where
  pub settled : TicketRoom
  pub message : Option (List ℕ)

-- the message that a change brings, where it is one that may have to wait
abbrev pub message_of : Change → Option (List ℕ)
message_of (Hold c name call message) = Some message
message_of change = None

-- the room suffices for a change that is told this
pub record IsRoomFor (change : Change) (told : NumberedOutcome) (room : CallRoom) : Type 0 where
  pub empty : room.settled.tickets ≡ []
  pub enough : length told.tickets ≤ room.settled.room
  pub message : room.message ≡ message_of change
