-- The connections that a message of the bus names, and their names spelled. (D-Bus Specification: "Message Bus Messages")
use Rattle.std.specs.Prelude.{ℕ, Option, Some, None, option_map}
use Rattle.names.specs.UniqueName.{unique_text}
use Rattle.audience.specs.SignalNames.{names_of as names_of_signal}
use Rattle.outbox_core.specs.declared.bus_facts.BusMessageNames.{BusMessageNames}
use Rattle.outbox_core.specs.Contents.{Own, Signals, Replies, Errs, Carried, Nothing, Number, UniqueName, Answered}

-- the connection whose unique name a reply carries
abbrev pub number_in : Carried → Option ℕ
number_in Nothing = None
number_in (Number n) = None
number_in (UniqueName number) = Some number
number_in (Answered answer) = None

-- A reply and an error name the connection that they are for.
abbrev pub names_of : Own → BusMessageNames
names_of (Signals signal) = record { signal = Some (names_of_signal signal); caller = None; carried = None }
names_of (Replies to carried) = record { signal = None; caller = option_map unique_text to.caller; carried = option_map unique_text (number_in carried) }
names_of (Errs to error) = record { signal = None; caller = option_map unique_text to.caller; carried = None }
