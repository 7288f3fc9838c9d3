-- The numbers of faults.
use Rattle.std.specs.Prelude.{Some, None}
use Rattle.service_files.specs.declared.fault.FileFault.{FileFault}
use Rattle.service_files.specs.declared.fault.FileFault.TheVariants.{Group, NameMissing, ExecMissing, Twice, Name, Line, NoMemory}
use Rattle.service_files.specs.declared.fault.FileCode.{FileCode}

abbrev pub fault_code : FileFault → FileCode
fault_code Group = record { number = 50; line = None }
fault_code NameMissing = record { number = 51; line = None }
fault_code ExecMissing = record { number = 52; line = None }
fault_code Twice = record { number = 53; line = None }
fault_code Name = record { number = 54; line = None }
fault_code (Line line) = record { number = 55; line = Some line }
fault_code NoMemory = record { number = 56; line = None }
