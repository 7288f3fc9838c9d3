-- The numbers of the causes for which a change is not made.
use Rattle.std.specs.Prelude.{ℕ}
use Rattle.bus_view.specs.declared.refusal.BatchCause.{BatchCause}
use Rattle.bus_view.specs.declared.refusal.BatchCause.TheVariants.{Batch, Refused}
use Rattle.bus_view.specs.declared.refusal.Cause.{Cause}
use Rattle.bus_view.specs.declared.refusal.Cause.TheVariants.{NoMemory, ForeignSeat, HistoryFull, Gone}

abbrev pub cause_code : Cause → ℕ
cause_code NoMemory = 60
cause_code ForeignSeat = 61
cause_code HistoryFull = 62
cause_code Gone = 63

-- and of those for which a batch is not made
abbrev pub batch_cause_code : BatchCause → ℕ
batch_cause_code (Refused cause) = cause_code cause
batch_cause_code Batch = 67
