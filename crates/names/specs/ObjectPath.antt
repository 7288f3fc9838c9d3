-- Object paths, after "Valid Object Paths" of the D-Bus Specification.
use Rattle.std.specs.Prelude.{◌≡◌, ◌⊎◌, true, false, [], ◌∷◌, Option, Some, None, ◌==◌, if◌then◌else◌}
use Rattle.names.specs.Texts.{Text}
use Rattle.names.specs.Elements.{Style, slash, AreElements, elements_fault}
use Rattle.names.specs.declared.fault.NameFault.{NameFault}
use Rattle.names.specs.declared.fault.NameFault.TheVariants.{Empty, BadByte}

abbrev pub path_style : Style
path_style = record { separator = Some slash; hyphen = false; digit_first = true }

-- a slash alone, or a slash and then elements joined by slashes
abbrev pub IsObjectPath : Text → Type 0
IsObjectPath text = (rest : Text) × (text ≡ slash ∷ rest) × ((rest ≡ []) ⊎ AreElements path_style slash 0 rest)

abbrev pub after_slash : Text → Option NameFault
after_slash [] = None
after_slash (b ∷ bytes) = elements_fault path_style true true 1 (b ∷ bytes)

abbrev pub object_path_fault : Text → Option NameFault
object_path_fault [] = Some Empty
object_path_fault (b ∷ bytes) = if b == slash then after_slash bytes else Some (BadByte 0)
