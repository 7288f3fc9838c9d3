-- Why a text is no string, and no object path, after "Marshaling (Wire Format)" of the D-Bus Specification.
use Rattle.std.specs.Prelude.{◌^◌, length, Option, Some, None, Result, Ok, Err, nat_le, if◌then◌else◌}
use Rattle.std.specs.Str.{is_utf8}
use Rattle.names.specs.Texts.{Text, has_zero}
use Rattle.names.specs.declared.fault.NameFault.{NameFault}
use Rattle.names.specs.ObjectPath.{object_path_fault}
use Rattle.marshal_core.specs.declared.fault.MarshalFault.{MarshalFault}
use Rattle.marshal_core.specs.declared.fault.MarshalFault.TheVariants.{Utf8, NulInText, Path, ArrayLength}

-- a string's length fits 32 bits, and no byte of it is zero
abbrev pub string_fault : Text → Option MarshalFault
string_fault text =
    if nat_le (2 ^ 32) (length text) then Some ArrayLength
    else if has_zero text then Some NulInText
    else if is_utf8 text then None
    else Some Utf8

abbrev pub path_named : Option NameFault → Option MarshalFault
path_named None = None
path_named (Some fault) = Some Path

-- a path is a string first
abbrev pub path_fault_after : Option MarshalFault → Text → Option MarshalFault
path_fault_after None text = path_named (object_path_fault text)
path_fault_after (Some fault) text = Some fault

abbrev pub unless : {A : Type 0} → Option MarshalFault → A → Result A MarshalFault
unless None x = Ok x
unless (Some fault) x = Err fault
