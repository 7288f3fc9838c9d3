-- Bytes that begin with a whole message wait for nothing.
use Rattle.std.proofs.Common.{◌≡◌, ℕ, ◌<◌, ◌≤◌, List, [], ◌∷◌, ◌++◌, length, Result, Ok, inl, inr, sym, ◌∙◌, subst, append_assoc, arith}
use Rattle.std.proofs.lemmas.List.{length-append}
use Rattle.message_core.specs.declared.fault.FrameFault.{FrameFault}
use Rattle.message_core.specs.Announcements.{announced}
use Rattle.message_core.specs.Messages.{IsMessage}
use Rattle.message_core.specs.Said.{said}
use Rattle.message_core.proofs.NoMessages.{announced_message}
use Rattle.message.specs.Framing.{IsWaiting}
use Rattle.message_core.specs.declared.announcement.TheConstants.{MAXIMUM_LENGTH}
use Rattle.router_steps.specs.Pending.{AreWithin, pending_bytes}
use Rattle.message.proofs.Front.{announced_append}

same_length : (limit m n : ℕ) → (r : Result ℕ FrameFault) → r ≡ Ok m → r ≡ Ok n → m ≡ n
same_length limit m n r is so = let e : Ok m ≡ Ok n = sym is ∙ so in cc

-- they announce no more than is there
pub is_whole : (limit : ℕ) (message rest : List ℕ) → IsMessage message (said message) → length message ≤ limit → IsWaiting limit (message ++ rest) → ⊥
is_whole limit message rest is within (inl short) =
    let a = announced_message limit message (said message) is within in
    absurd (omega (arith, a.0, short, length-append message rest))
is_whole limit message rest is within (inr waits) =
    let a = announced_message limit message (said message) is within in
    let so : announced limit (message ++ rest) ≡ Ok (length message) = announced_append limit message rest a.0 ∙ a.1 in
    let n : length message ≡ waits.0 = same_length limit (length message) waits.0 (announced limit (message ++ rest)) so waits.1 in
    absurd (omega (arith, n, waits.2, length-append message rest))

-- messages that were taken off, and what is behind them
pub pending_is_whole : (pending : List (List ℕ)) (rest : List ℕ) → AreWithin pending → 0 < length pending → IsWaiting MAXIMUM_LENGTH (pending_bytes pending ++ rest) → ⊥
pending_is_whole [] rest within some waits = absurd (omega (arith, some))
pending_is_whole (message ∷ messages) rest within some waits =
    is_whole MAXIMUM_LENGTH message (pending_bytes messages ++ rest) within.0.is_message within.0.within
    (subst (λ bytes. IsWaiting MAXIMUM_LENGTH bytes) (append_assoc message (pending_bytes messages) rest) waits)
