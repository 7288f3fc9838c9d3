-- The numbers of the faults of names.
use Rattle.std.specs.Prelude.{ℕ}
use Rattle.names.specs.declared.fault.NameFault.{NameFault}
use Rattle.names.specs.declared.fault.NameFault.TheVariants.{Empty, TooLong, BadByte, TooFewElements, DigitFirst}

abbrev pub code_of : NameFault → ℕ
code_of Empty = 1
code_of TooLong = 2
code_of (BadByte place) = 3
code_of TooFewElements = 4
code_of DigitFirst = 5
