-- What a framer holds and answers.
use Rattle.std.specs.Prelude.{◌≡◌, ◌⊎◌, ℕ, ◌<◌, ◌≤◌, ◌++◌, List, length, take, Option, Some, None, Ok, Err}
use Rattle.message_core.specs.declared.fault.FrameFault.{FrameFault}
use Rattle.message_core.specs.declared.fault.FrameFault.TheVariants as fault
use Rattle.message_core.specs.Announcements.{announced, fixed_length}
use Rattle.message_core.specs.Messages.{IsMessage}
use Rattle.message_core.specs.Refusals.{IsRefused}
use Rattle.message_core.specs.Said.{said}
use Rattle.message_core.specs.Streams.{BeginsNoMessage}

-- the bytes that were not given out yet, and the fault that is answered for good
pub record Unread : Type 0 where
  pub bytes : List ℕ
  pub fault : Option FrameFault

-- More bytes are wanted: there are not even those that announce a length, or fewer than they announce.
abbrev pub IsWaiting : ℕ → List ℕ → Type 0
IsWaiting limit bytes = (length bytes < fixed_length) ⊎ ((n : ℕ) × (announced limit bytes ≡ Ok n) × (length bytes < n))

-- All of what the first bytes announce is there: so many bytes.
abbrev pub IsFound : ℕ → ℕ → List ℕ → Type 0
IsFound limit size bytes = (fixed_length ≤ size) × (size ≤ length bytes) × (announced limit bytes ≡ Ok size)

-- A message within the limit was taken off the front.
pub record IsTaken (limit : ℕ) (message : List ℕ) (old new : Unread) : Type 0 where
  pub fine : old.fault ≡ None
  pub is_message : IsMessage message (said message)
  pub within : length message ≤ limit
  pub taken : old.bytes ≡ message ++ new.bytes
  pub still_fine : new.fault ≡ None

-- The first bytes announce no message for this fault, or the whole of what they announce is there and is refused for it.
abbrev pub IsJudged : ℕ → FrameFault → List ℕ → Type 0
IsJudged limit f bytes = (fixed_length ≤ length bytes) × ((announced limit bytes ≡ Err f) ⊎ ((n : ℕ) × (announced limit bytes ≡ Ok n) × (n ≤ length bytes) × IsRefused (take n bytes) f))

-- A fault is that which was told before, or stays from now on.
abbrev pub IsKept : ℕ → FrameFault → Unread → Unread → Type 0
IsKept limit f old new =
    ((old.fault ≡ Some f) × (new ≡ old))
    ⊎ ((old.fault ≡ None) × IsJudged limit f old.bytes × (new ≡ record { bytes = old.bytes; fault = Some f }))

-- No message within the limit begins the unread bytes, unless the fault was told before.
abbrev pub IsNoFront : ℕ → Unread → Type 0
IsNoFront limit old = old.fault ≡ None → BeginsNoMessage limit old.bytes

-- Want of memory changes nothing.
abbrev pub FaultIs : ℕ → FrameFault → Unread → Unread → Type 0
FaultIs limit fault.NoMemory old new = new ≡ old
FaultIs limit f old new = IsKept limit f old new
