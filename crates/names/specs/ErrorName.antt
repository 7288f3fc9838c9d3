-- Error names, after "Error names" of the D-Bus Specification.
use Rattle.std.specs.Prelude.{Option}
use Rattle.names.specs.Texts.{Text}
use Rattle.names.specs.Interface.{IsInterface, interface_fault}
use Rattle.names.specs.declared.fault.NameFault.{NameFault}

-- error names are spelled as interface names are
abbrev pub IsErrorName : Text → Type 0
IsErrorName text = IsInterface text

abbrev pub error_name_fault : Text → Option NameFault
error_name_fault text = interface_fault text
