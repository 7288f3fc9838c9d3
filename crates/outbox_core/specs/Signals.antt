-- A signal of the bus, as match rules are tested against it, and as it is written. (D-Bus Specification: "Match Rules", "Message Bus Messages")
use Rattle.std.specs.Prelude.{◌≡◌, ℕ}
use Rattle.seq_bus_core.specs.Steps.{facts_of as facts_tested}
use Rattle.seq_bus_core.specs.declared.signal.BusSignal.{BusSignal}
use Rattle.message.specs.FactsOf.{facts_of as facts_written}
use Rattle.driver.specs.OwnMessages.{signal_message}

-- ## Laws

-- What the bus tests rules against, when it looks for whom a signal goes to, is what is seen in the message that is written of it, whatever its serial.
abbrev pub SignalsAreTestedAsWritten : Type 0
SignalsAreTestedAsWritten = (serial : ℕ) (signal : BusSignal) → facts_tested signal ≡ facts_written (signal_message serial signal)
