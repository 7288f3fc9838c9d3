-- What is written of a content.
use Rattle.std.specs.Prelude.{◌≡◌, ℕ, List}
use Rattle.message_core.specs.Messages.{IsWritten}
use Rattle.outbox_core.specs.Contents.{Said, Relays, Tells, bus_message}

-- the bytes of what is said; a message of the bus has this serial
abbrev pub IsSpelled : Said → ℕ → List ℕ → Type 0
IsSpelled (Relays relayed) serial bytes = bytes ≡ relayed
IsSpelled (Tells own) serial bytes = IsWritten bytes (bus_message serial own)
