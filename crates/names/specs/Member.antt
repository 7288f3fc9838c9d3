-- Member names, after "Member names" of the D-Bus Specification.
use Rattle.std.specs.Prelude.{◌≤◌, true, false, length, Option, None}
use Rattle.names.specs.Texts.{Text}
use Rattle.names.specs.Elements.{Style, max_name_length, IsElement, elements_fault, sized_fault}
use Rattle.names.specs.declared.fault.NameFault.{NameFault}

abbrev pub member_style : Style
member_style = record { separator = None; hyphen = false; digit_first = false }

-- one element
abbrev pub IsMember : Text → Type 0
IsMember text = (length text ≤ max_name_length) × IsElement member_style text

abbrev pub member_fault : Text → Option NameFault
member_fault text = sized_fault (elements_fault member_style true true 0) text
