-- What becomes of all that is pushed, whatever is done with it.
use Rattle.std.specs.Prelude.{◌≡◌, ℕ, List, [], ◌∷◌, ◌++◌, Some}
use Rattle.outgoing.specs.Flushing.{Flushes}

-- a push of these bytes, a push that there was no memory for, and a flush, whether it fails or not
pub data Call : Type 0 where
  Push : List ℕ → Call
  Refusal : Call
  Flush : Call

-- the bytes that wait, and those that the socket took
pub record Course : Type 0 where
  pub waits : List ℕ
  pub taken : List ℕ

abbrev pub Makes : Call → Course → Course → Type 0
Makes (Push bytes) before after = (after.waits ≡ before.waits ++ bytes) × (after.taken ≡ before.taken)
Makes Refusal before after = after ≡ before
Makes Flush before after = Flushes before.waits after.waits (Some before.taken) (Some after.taken)

-- one call after the other
abbrev pub MakesAll : List Call → Course → Course → Type 0
MakesAll [] before after = after ≡ before
MakesAll (call ∷ calls) before after = (between : Course) × Makes call before between × MakesAll calls between after

-- all that was pushed
abbrev pub pushed : List Call → List ℕ
pushed [] = []
pushed (Push bytes ∷ calls) = bytes ++ pushed calls
pushed (Refusal ∷ calls) = pushed calls
pushed (Flush ∷ calls) = pushed calls

-- What reached the socket is a beginning of what was pushed, and what waits is the rest.
abbrev pub ReachedBeginsPushed : Type 0
ReachedBeginsPushed =
    (calls : List Call) (before after : Course) → before.waits ≡ [] → MakesAll calls before after
    → (reached : List ℕ) × (after.taken ≡ before.taken ++ reached) × (pushed calls ≡ reached ++ after.waits)
