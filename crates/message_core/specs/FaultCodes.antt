-- The numbers of faults.
use Rattle.std.specs.Prelude.{ℕ, Some, None}
use Rattle.marshal_core.specs.Faults.{fault_code as marshal_code}
use Rattle.message_core.specs.declared.fault.FrameFault.{FrameFault}
use Rattle.message_core.specs.declared.fault.FrameFault.TheVariants.{Order, Version, Kind, Serial, Field, Missing, TooLong, BodyLength, Body, NoMemory}
use Rattle.message_core.specs.declared.fault.FaultCode.{FaultCode}

abbrev numbered : ℕ → FaultCode
numbered n = record { number = n; detail = None }

abbrev detailed : ℕ → ℕ → FaultCode
detailed n detail = record { number = n; detail = Some detail }

abbrev pub fault_code : FrameFault → FaultCode
fault_code Order = numbered 21
fault_code Version = numbered 22
fault_code Kind = numbered 23
fault_code Serial = numbered 24
fault_code (Field code) = detailed 25 code
fault_code (Missing code) = detailed 26 code
fault_code TooLong = numbered 27
fault_code BodyLength = numbered 28
fault_code (Body fault) = detailed 29 (marshal_code fault)
fault_code NoMemory = numbered 30
