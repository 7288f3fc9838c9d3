-- What stands at the front of the bytes that a connection sent. (D-Bus Specification: "Message Protocol")
use Rattle.std.specs.Prelude.{◌≡◌, ◌≢◌, ℕ, ◌≤◌, List, ◌++◌, length}
use Rattle.message_core.specs.declared.fault.FrameFault.{FrameFault}
use Rattle.message_core.specs.declared.fault.FrameFault.TheVariants.{NoMemory}
use Rattle.message_core.specs.declared.announcement.TheConstants.{MAXIMUM_LENGTH}
use Rattle.message_core.specs.Messages.{IsMessage}
use Rattle.message_core.specs.Said.{said}
use Rattle.message.specs.Framing.{IsWaiting, IsJudged}

pub data Incoming : Type 0 where
  -- more bytes are wanted
  Waits : Incoming
  -- the bytes of a message, and those behind it
  Whole : (message rest : List ℕ) → Incoming
  -- no message
  Faulty : FrameFault → Incoming

-- The bytes have this front, and no other.
abbrev pub IsIncoming : List ℕ → Incoming → Type 0
IsIncoming bytes Waits = IsWaiting MAXIMUM_LENGTH bytes
IsIncoming bytes (Whole message rest) = IsMessage message (said message) × (length message ≤ MAXIMUM_LENGTH) × (bytes ≡ message ++ rest)
IsIncoming bytes (Faulty fault) = IsJudged MAXIMUM_LENGTH fault bytes × (fault ≢ NoMemory)
