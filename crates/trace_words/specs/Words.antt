-- The words of a line, and what stands in a word.
use Rattle.std.specs.Prelude.{ℕ, ◌+◌, ◌-◌, ◌*◌, ◌^◌, nat_lt, Bool, true, false, ◌&&◌, ◌==◌, Option, Some, None, is_none, is_some, List, [], ◌∷◌, codes, if◌then◌else◌}
use Rattle.std.specs.List.{slice_split}
use Rattle.names.specs.Texts.{Text, text_eq}
use Rattle.names.specs.Elements.{is_digit}
use Rattle.names.specs.BusName.{bus_name_fault}

-- ## Separators

abbrev pub space : ℕ
space = 32

abbrev pub exclamation : ℕ
exclamation = 33

abbrev pub plus : ℕ
plus = 43

abbrev pub comma : ℕ
comma = 44

abbrev pub slash : ℕ
slash = 47

abbrev pub equals : ℕ
equals = 61

-- what stands between separators
abbrev pub parts : ℕ → Text → List Text
parts separator text = slice_split (λ b. b == separator) text

-- ## Words

-- the word that stands for none
abbrev pub dash : Text
dash = codes "-"

abbrev pub bit_of : Text → Option Bool
bit_of text = if text_eq text (codes "1") then Some true else if text_eq text (codes "0") then Some false else None

-- numbers are below it
abbrev pub number_bound : ℕ
number_bound = 2 ^ 64

-- a number, and the digits behind it
abbrev pub number_from : ℕ → Text → Option ℕ
number_from number [] = Some number
number_from number (b ∷ digits) =
    if is_digit b && nat_lt (10 * number + (b - 48)) number_bound then number_from (10 * number + (b - 48)) digits
    else None

abbrev pub begins_with_zero : Text → Bool
begins_with_zero [] = false
begins_with_zero (b ∷ text) = b == 48

-- Numbers are decimal, without zeros before them.
abbrev pub number_of : Text → Option ℕ
number_of text =
    if text_eq text (codes "0") then Some 0
    else if text_eq text [] then None
    else if begins_with_zero text then None
    else number_from 0 text

abbrev pub is_number : Text → Bool
is_number text = is_some (number_of text)

abbrev pub is_bus_name : Text → Bool
is_bus_name text = is_none (bus_name_fault text)

abbrev pub name_of : Text → Option Text
name_of text = if is_bus_name text then Some text else None
