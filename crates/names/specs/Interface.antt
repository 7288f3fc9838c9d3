-- Interface names, after "Interface names" of the D-Bus Specification.
use Rattle.std.specs.Prelude.{◌≤◌, true, false, length, Option, Some}
use Rattle.names.specs.Texts.{Text}
use Rattle.names.specs.Elements.{Style, dot, max_name_length, AreElements, elements_fault, sized_fault}
use Rattle.names.specs.declared.fault.NameFault.{NameFault}

abbrev pub interface_style : Style
interface_style = record { separator = Some dot; hyphen = false; digit_first = false }

-- two or more elements joined by dots
abbrev pub IsInterface : Text → Type 0
IsInterface text = (length text ≤ max_name_length) × AreElements interface_style dot 1 text

abbrev pub interface_fault : Text → Option NameFault
interface_fault text = sized_fault (elements_fault interface_style true false 0) text
