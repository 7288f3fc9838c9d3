-- Messages that were taken off the bytes of a connection, and were not served.
use Rattle.std.specs.Prelude.{ℕ, ◌≤◌, List, [], ◌∷◌, ◌++◌, length}
use Rattle.std.specs.List.{AllByRecursion}
use Rattle.message_core.specs.declared.announcement.TheConstants.{MAXIMUM_LENGTH}
use Rattle.message_core.specs.Messages.{IsMessage}
use Rattle.message_core.specs.Said.{said}

-- a whole message within the limit
pub record IsWithin (message : List ℕ) : Type 0 where
  pub is_message : IsMessage message (said message)
  pub within : length message ≤ MAXIMUM_LENGTH

abbrev pub AreWithin : List (List ℕ) → Type 0
AreWithin messages = AllByRecursion IsWithin messages

-- their bytes, in order
abbrev pub pending_bytes : List (List ℕ) → List ℕ
pending_bytes [] = []
pending_bytes (message ∷ messages) = message ++ pending_bytes messages
