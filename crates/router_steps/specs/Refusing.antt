-- The errors that a Hello may be answered, before the bus is asked.
use Rattle.std.specs.Prelude.{ℕ, None, List}
use Rattle.seq_bus_core.specs.declared.error_kind.ErrorKind.{ErrorKind}
use Rattle.seq_bus_core.specs.declared.error_kind.ErrorKind.TheVariants as error
use Rattle.message_core.specs.Messages.{Message, IsWritten}
use Rattle.driver.specs.Answered.{ReplyTo}
use Rattle.outbox_core.specs.Contents.{Errs, bus_message}

-- The caller of a Hello has no name yet.
abbrev pub hello_of : Message → ReplyTo
hello_of m = record { caller = None; call = m.serial }

-- the bytes of the error that it is answered, as the message of the bus of this serial
abbrev pub IsRefusal : Message → ErrorKind → (serial : ℕ) → List ℕ → Type 0
IsRefusal m error serial bytes = IsWritten bytes (bus_message serial (Errs (hello_of m) error))

-- the bytes of the errors
pub record Spelled : Type 0 where
  pub no_memory : List ℕ
  pub failed : List ℕ
  pub limits : List ℕ

-- all three are messages of this serial
pub record AreRefusals (m : Message) (serial : ℕ) (spelled : Spelled) : Type 0 where
  pub no_memory : IsRefusal m error.NoMemory serial spelled.no_memory
  pub failed : IsRefusal m error.Failed serial spelled.failed
  pub limits : IsRefusal m error.LimitsExceeded serial spelled.limits
