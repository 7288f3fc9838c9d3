-- The numbers of faults.
use Rattle.std.specs.Prelude.{ℕ, Some, None}
use Rattle.sasl.specs.declared.fault.AuthenticationFault.{AuthenticationFault}
use Rattle.sasl.specs.declared.fault.AuthenticationFault.TheVariants.{FirstByte, BeginEarly, LineTooLong, Rejections, NoMemory}
use Rattle.sasl.specs.declared.fault.KeyringFault.{KeyringFault}
use Rattle.sasl.specs.declared.fault.KeyringFault.TheVariants as keyring
use Rattle.sasl.specs.declared.fault.KeyringCode.{KeyringCode}

abbrev pub fault_code : AuthenticationFault → ℕ
fault_code FirstByte = 31
fault_code BeginEarly = 32
fault_code LineTooLong = 33
fault_code Rejections = 34
fault_code NoMemory = 35

abbrev pub keyring_code : KeyringFault → KeyringCode
keyring_code keyring.Empty = record { number = 36; line = None }
keyring_code (keyring.Line line) = record { number = 37; line = Some line }
keyring_code keyring.NoMemory = record { number = 38; line = None }
