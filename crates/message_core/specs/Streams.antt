-- How a stream is cut into messages.
use Rattle.std.specs.Prelude.{◌≡◌, ℕ, ◌≤◌, List, [], ◌∷◌, ◌++◌, length}
use Rattle.message_core.specs.Messages.{Message, IsMessage}

-- no message within the limit begins the bytes
abbrev pub BeginsNoMessage : ℕ → List ℕ → Type 0
BeginsNoMessage limit bytes = (m : Message) (front rest : List ℕ) → bytes ≡ front ++ rest → length front ≤ limit → IsMessage front m → ⊥

-- The bytes are these messages, each within the limit, and then a rest that no such message begins.
abbrev pub IsStream : ℕ → List ℕ → List Message → List ℕ → Type 0
IsStream limit bytes [] rest = (bytes ≡ rest) × BeginsNoMessage limit rest
IsStream limit bytes (m ∷ ms) rest =
    (first : List ℕ) × (others : List ℕ) × IsMessage first m × (length first ≤ limit) × IsStream limit others ms rest
    × (bytes ≡ first ++ others)
