-- Unique connection names, after "Bus names" of the D-Bus Specification.
use Rattle.std.specs.Prelude.{◌≡◌, ℕ, ◌≤◌, true, false, [], ◌∷◌, ◌++◌, length, Option, Some, ◌==◌, codes, decimal, if◌then◌else◌}
use Rattle.names.specs.Texts.{Text}
use Rattle.names.specs.Elements.{Style, dot, colon, max_name_length, AreElements, elements_fault, sized_fault}
use Rattle.names.specs.declared.fault.NameFault.{NameFault}
use Rattle.names.specs.declared.fault.NameFault.TheVariants.{BadByte}

abbrev pub unique_style : Style
unique_style = record { separator = Some dot; hyphen = true; digit_first = true }

-- a colon, and then two or more elements joined by dots
abbrev pub IsUniqueName : Text → Type 0
IsUniqueName text = (length text ≤ max_name_length) × ((rest : Text) × (text ≡ colon ∷ rest) × AreElements unique_style dot 1 rest)

abbrev pub after_colon : Text → Option NameFault
after_colon [] = Some (BadByte 0)
after_colon (b ∷ bytes) = if b == colon then elements_fault unique_style true false 1 bytes else Some (BadByte 0)

abbrev pub unique_name_fault : Text → Option NameFault
unique_name_fault text = sized_fault after_colon text

-- the unique name that the bus gives to the connection of a number
abbrev pub unique_text : ℕ → Text
unique_text number = codes ":1." ++ decimal number
