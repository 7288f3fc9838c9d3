-- A fault that is told for the first time.
use Rattle.std.proofs.Common.{◌≡◌, ◌≢◌, ℕ, Option, Some, None, sym, ap, ◌∙◌, refl, inl, inr}
use Rattle.message_core.specs.declared.fault.FrameFault.{FrameFault}
use Rattle.message_core.specs.declared.fault.FrameFault.TheVariants.{NoMemory}
use Rattle.message.specs.Framing.{Unread, IsJudged, IsKept, FaultIs}

told_first : (limit : ℕ) (f : FrameFault) (old new : Unread) → old.fault ≡ None → IsKept limit f old new → IsJudged limit f old.bytes
told_first limit f old new fine (inl kept) = let never : ⊥ = let e = sym kept.0 ∙ fine in cc in absurd never
told_first limit f old new fine (inr kept) = kept.1

-- The bytes are judged so.
pub judged : (limit : ℕ) (f : FrameFault) (old new : Unread) → f ≢ NoMemory → old.fault ≡ None → FaultIs limit f old new → IsJudged limit f old.bytes
judged limit NoMemory old new other fine h = absurd (other refl)
judged limit f old new other fine h = told_first limit f old new fine h

kept_bytes : (limit : ℕ) (f : FrameFault) (old new : Unread) → IsKept limit f old new → new.bytes ≡ old.bytes
kept_bytes limit f old new (inl kept) = ap (λ (u : Unread). u.bytes) kept.1
kept_bytes limit f old new (inr kept) = ap (λ (u : Unread). u.bytes) kept.2

-- They are there still.
pub bytes_kept : (limit : ℕ) (f : FrameFault) (old new : Unread) → FaultIs limit f old new → new.bytes ≡ old.bytes
bytes_kept limit NoMemory old new h = ap (λ (u : Unread). u.bytes) h
bytes_kept limit f old new h = kept_bytes limit f old new h

pub none_of : {A : Type 0} (o : Option A) → ((x : A) → o ≡ Some x → ⊥) → o ≡ None
none_of None never = refl
none_of (Some x) never = absurd (never x refl)
