-- Well-known bus names, after "Bus names" of the D-Bus Specification.
use Rattle.std.specs.Prelude.{◌≤◌, true, false, length, Option, Some}
use Rattle.names.specs.Texts.{Text}
use Rattle.names.specs.Elements.{Style, dot, max_name_length, AreElements, elements_fault, sized_fault}
use Rattle.names.specs.declared.fault.NameFault.{NameFault}

abbrev pub well_known_style : Style
well_known_style = record { separator = Some dot; hyphen = true; digit_first = false }

-- two or more elements joined by dots
abbrev pub IsWellKnownName : Text → Type 0
IsWellKnownName text = (length text ≤ max_name_length) × AreElements well_known_style dot 1 text

abbrev pub well_known_fault : Text → Option NameFault
well_known_fault text = sized_fault (elements_fault well_known_style true false 0) text

-- A namespace of well-known names, as a match rule's `arg0namespace` has it: it may also have one element.
abbrev pub IsNamespace : Text → Type 0
IsNamespace text = (length text ≤ max_name_length) × AreElements well_known_style dot 0 text

abbrev pub namespace_fault : Text → Option NameFault
namespace_fault text = sized_fault (elements_fault well_known_style true true 0) text
