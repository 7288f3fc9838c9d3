-- Bus names, after "Bus names" of the D-Bus Specification: unique names, well-known names and the bus's own name.
use Rattle.std.specs.Prelude.{Bool, false, ◌⊎◌, [], ◌∷◌, Option, ◌==◌, codes, if◌then◌else◌}
use Rattle.names.specs.Texts.{Text, text_eq}
use Rattle.names.specs.Elements.{colon}
use Rattle.names.specs.UniqueName.{IsUniqueName, unique_name_fault}
use Rattle.names.specs.WellKnown.{IsWellKnownName, well_known_fault}
use Rattle.names.specs.declared.fault.NameFault.{NameFault}
use Rattle.names.specs.declared.bus_name_kind.BusNameKind.{BusNameKind}
use Rattle.names.specs.declared.bus_name_kind.BusNameKind.TheVariants.{Bus, Unique, WellKnown}

-- the name of the bus itself, which is spelled as a well-known name
abbrev pub bus_text : Text
bus_text = codes "org.freedesktop.DBus"

abbrev pub is_bus : Text → Bool
is_bus text = text_eq text bus_text

-- a text that begins with a colon is read as a unique name
abbrev pub is_unique : Text → Bool
is_unique [] = false
is_unique (b ∷ bytes) = b == colon

abbrev pub kind_of : Text → BusNameKind
kind_of text = if is_unique text then Unique else (if is_bus text then Bus else WellKnown)

abbrev pub IsBusName : Text → Type 0
IsBusName text = IsUniqueName text ⊎ IsWellKnownName text

abbrev pub bus_name_fault : Text → Option NameFault
bus_name_fault text = if is_unique text then unique_name_fault text else well_known_fault text
