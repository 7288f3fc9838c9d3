-- The numbers of faults.
use Rattle.std.specs.Prelude.{ℕ}
use Rattle.message.specs.declared.fault.RelayFault.{RelayFault}
use Rattle.message.specs.declared.fault.RelayFault.TheVariants.{TooLong, NoMemory}

abbrev pub fault_code : RelayFault → ℕ
fault_code TooLong = 27
fault_code NoMemory = 30
