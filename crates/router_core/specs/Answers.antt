-- What a router hears from its view of a bus.
use Rattle.std.specs.Prelude.{◌≡◌, ℕ, Bool, true, false, Option, is_some, List}
use Rattle.match_rules.specs.Facts.{Facts}
use Rattle.seq_bus_core.specs.Answers.{Answer, answer}
use Rattle.seq_bus_core.specs.BusState.{connection_of}
use Rattle.seq_bus_core.specs.Recipients.{recipients}
use Rattle.seq_bus_core.specs.declared.change.Change.{Change}
use Rattle.seq_bus_core.specs.declared.error_kind.ErrorKind.{ErrorKind}
use Rattle.seq_bus_core.specs.declared.error_kind.ErrorKind.TheVariants.{Failed, NoMemory as NoMemoryError}
use Rattle.seq_bus_core.specs.declared.outcome.Outcome.{Outcome}
use Rattle.seq_bus_core.specs.declared.query.Query.{Query}
use Rattle.seq_bus_core.specs.declared.verdict.Verdict.{Verdict}
use Rattle.bus_view.specs.Views.{Knowledge, bus_seen, AreChanged, IsChanged, IsRead}
use Rattle.bus_view.specs.declared.refusal.Cause.{Cause}
use Rattle.bus_view.specs.declared.refusal.Cause.TheVariants as cause
use Rattle.bus_view.specs.declared.refusal.BatchCause.{BatchCause}
use Rattle.bus_view.specs.declared.refusal.BatchCause.TheVariants as batch
use Rattle.bus_view.specs.declared.answer.AskFault.{AskFault}
use Rattle.bus_view.specs.declared.answer.AskFault.TheVariants as fault

-- why a call of the bus is not answered: for want of memory, or as the bus is gone or the router no part of it
pub data Refusal : Type 0 where
  NoMemory : Refusal
  Lost : Refusal

-- an answer, or why there is none
pub data Heard (X : Type 0) : Type 0 where
  Says : X → Heard X
  Refuses : Refusal → Heard X

abbrev pub refusal_of : Cause → Refusal
refusal_of cause.NoMemory = NoMemory
refusal_of cause.ForeignSeat = Lost
refusal_of cause.HistoryFull = Lost
refusal_of cause.Gone = Lost

-- A batch is one by its size: nobody asks for another.
abbrev pub refusal_of_batch : BatchCause → Refusal
refusal_of_batch (batch.Refused why) = refusal_of why
refusal_of_batch batch.Batch = Lost

abbrev pub refusal_of_query : AskFault → Refusal
refusal_of_query fault.NoMemory = NoMemory
refusal_of_query fault.Gone = Lost

-- Want of memory may pass; what is lost is lost for good.
abbrev pub is_final : Refusal → Bool
is_final NoMemory = false
is_final Lost = true

-- the error that a call is answered for it
abbrev pub error_for : Refusal → ErrorKind
error_for NoMemory = NoMemoryError
error_for Lost = Failed

-- ## What may be heard, from what was known before to what is known then

-- A bus that is alone is never lost.
abbrev pub IsLost : Bool → Refusal → Type 0
IsLost alone NoMemory = Unit {0}
IsLost alone Lost = alone ≡ true → ⊥

-- A change that is refused is not made.
abbrev pub HearsChange : Bool → Change → Knowledge → Heard Outcome → Knowledge → Type 0
HearsChange alone change before (Says outcome) after = IsChanged alone before change outcome after
HearsChange alone change before (Refuses refusal) after = (after ≡ before) × IsLost alone refusal

-- A batch that is refused is refused whole: none of its changes is made.
abbrev pub HearsChanges : Bool → List Change → Knowledge → Heard (List Outcome) → Knowledge → Type 0
HearsChanges alone changes before (Says outcomes) after = AreChanged alone before changes outcomes after
HearsChanges alone changes before (Refuses refusal) after = (after ≡ before) × IsLost alone refusal

-- For want of memory the bus may have been read all the same, and no more was done. Where it is gone, nothing was read.
abbrev pub HearsAnswer : Bool → Query → Knowledge → Heard (Option Answer) → Knowledge → Type 0
HearsAnswer alone query before (Says told) after =
    IsRead alone before after × (told ≡ answer (bus_seen after).state query)
HearsAnswer alone query before (Refuses NoMemory) after = IsRead alone before after
HearsAnswer alone query before (Refuses Lost) after = (after ≡ before) × (alone ≡ true → ⊥)

abbrev pub HearsVerdict : Bool → ℕ → Facts → Knowledge → Heard Verdict → Knowledge → Type 0
HearsVerdict alone from facts before (Says verdict) after = IsRead alone before after × (verdict ≡ recipients (bus_seen after).state from facts)
HearsVerdict alone from facts before (Refuses refusal) after = (after ≡ before) × (alone ≡ true → ⊥) × (refusal ≡ Lost)

-- whether a connection of this number is there
abbrev pub HearsPresent : Bool → ℕ → Knowledge → Heard Bool → Knowledge → Type 0
HearsPresent alone number before (Says present) after = IsRead alone before after × (present ≡ is_some (connection_of (bus_seen after).state number))
HearsPresent alone number before (Refuses refusal) after = (after ≡ before) × (alone ≡ true → ⊥) × (refusal ≡ Lost)
