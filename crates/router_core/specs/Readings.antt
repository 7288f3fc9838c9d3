-- What bytes and calls are read as.
use Rattle.std.specs.Prelude.{◌≡◌, ◌≢◌, ℕ, List, ◌++◌}
use Rattle.message_core.specs.Messages.{Message}
use Rattle.driver.specs.declared.call.Call.{Call}
use Rattle.driver.specs.Calls.{Reading, IsCall}
use Rattle.router_core.specs.Incoming.{Incoming, Waits, Whole, Faulty, IsIncoming}

-- Bytes have one front: one message and one rest, or one fault, or more bytes are wanted.
abbrev pub IncomingIsOne : Type 0
IncomingIsOne = (bytes : List ℕ) (incoming other : Incoming) → IsIncoming bytes incoming → IsIncoming bytes other → incoming ≡ other

-- the front with more bytes behind it
abbrev pub with_behind : List ℕ → Incoming → Incoming
with_behind piece Waits = Waits
with_behind piece (Whole message rest) = Whole message (rest ++ piece)
with_behind piece (Faulty fault) = Faulty fault

-- What comes behind a message or a fault makes no other of it.
abbrev pub IncomingStays : Type 0
IncomingStays = (bytes piece : List ℕ) (incoming : Incoming) → incoming ≢ Waits → IsIncoming bytes incoming → IsIncoming (bytes ++ piece) (with_behind piece incoming)

-- A message is one call, or has one fault.
abbrev pub CallsAreOne : Type 0
CallsAreOne = (m : Message) (reading other : Reading Call) → IsCall m reading → IsCall m other → reading ≡ other

-- It is a call, or has a fault.
abbrev pub CallsAreRead : Type 0
CallsAreRead = (m : Message) → (reading : Reading Call) × IsCall m reading
