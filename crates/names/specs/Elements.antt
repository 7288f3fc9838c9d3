-- The elements of names, after "Valid Names" and "Valid Object Paths" of the D-Bus Specification.
use Rattle.std.specs.Prelude.{◌≡◌, ℕ, ◌+◌, ◌<◌, ◌≤◌, Bool, true, false, ◌&&◌, ◌||◌, not, List, [], ◌∷◌, ◌++◌, length, Option, Some, None, nat_le, nat_lt, ◌==◌, if◌then◌else◌}
use Rattle.std.specs.List.{flat_map, AllByRecursion}
use Rattle.names.specs.Texts.{Text, IsPlain}
use Rattle.names.specs.declared.fault.NameFault.{NameFault}
use Rattle.names.specs.declared.fault.NameFault.TheVariants.{Empty, TooLong, BadByte, TooFewElements, DigitFirst}

-- the longest name; object paths have no such limit
abbrev pub max_name_length : ℕ
max_name_length = 255

-- what every name is, but for object paths, which may be longer
abbrev pub IsShortAndPlain : Text → Type 0
IsShortAndPlain text = (length text ≤ max_name_length) × IsPlain text

abbrev pub hyphen_byte : ℕ
hyphen_byte = 45

abbrev pub dot : ℕ
dot = 46

abbrev pub slash : ℕ
slash = 47

abbrev pub colon : ℕ
colon = 58

abbrev pub underscore : ℕ
underscore = 95

-- What stands between two elements of a kind of name, if it can have several, and what an element is made of.
pub record Style : Type 0 where
  pub separator : Option ℕ
  pub hyphen : Bool
  pub digit_first : Bool

-- 0 to 9
abbrev pub is_digit : ℕ → Bool
is_digit b = nat_le 48 b && nat_le b 57

-- A to Z and a to z
abbrev pub is_letter : ℕ → Bool
is_letter b = (nat_le 65 b && nat_le b 90) || (nat_le 97 b && nat_le b 122)

abbrev pub IsNoLetter : ℕ → Type 0
IsNoLetter b = is_letter b ≡ false

-- a letter, a digit, an underscore, and where the style allows it a hyphen
abbrev pub is_element_byte : Style → ℕ → Bool
is_element_byte style b = is_letter b || is_digit b || (b == underscore) || (style.hyphen && (b == hyphen_byte))

-- An element has at least one byte, and begins with a digit only where the style allows it.
abbrev pub IsElement : Style → Text → Type 0
IsElement style [] = ⊥
IsElement style (b ∷ bytes) = (is_element_byte style b ≡ true) × ((is_digit b ≡ true) → style.digit_first ≡ true) × AllByRecursion (λ c. is_element_byte style c ≡ true) bytes

-- an element with a separator before it
abbrev pub led_by : ℕ → Text → Text
led_by separator element = separator ∷ element

-- the elements with a separator between each two
abbrev pub joined : ℕ → List Text → Text
joined separator [] = []
joined separator (first ∷ others) = first ++ flat_map (led_by separator) others

-- more than `fewer` elements, joined by a separator
abbrev pub AreElements : Style → ℕ → ℕ → Text → Type 0
AreElements style separator fewer text = (elements : List Text) × (fewer < length elements) × AllByRecursion (IsElement style) elements × (text ≡ joined separator elements)

abbrev pub is_separator : Option ℕ → ℕ → Bool
is_separator None b = false
is_separator (Some separator) b = b == separator

-- The first fault from the left of what is to be elements: whether an element begins here, whether there are enough
-- elements without another separator, the place in the name, and the bytes from there on.
abbrev pub elements_fault : Style → Bool → Bool → ℕ → Text → Option NameFault
elements_fault style begins enough place [] = if begins then Some (BadByte place) else (if enough then None else Some TooFewElements)
elements_fault style begins enough place (b ∷ bytes) =
    if is_separator style.separator b then (if begins then Some (BadByte place) else elements_fault style true true (place + 1) bytes)
    else if is_element_byte style b then (if begins && (is_digit b && not style.digit_first) then Some DigitFirst else elements_fault style false enough (place + 1) bytes)
    else Some (BadByte place)

-- Before its bytes are looked at, a name is not empty, and not longer than names may be.
abbrev pub sized_fault : (Text → Option NameFault) → Text → Option NameFault
sized_fault fault [] = Some Empty
sized_fault fault (b ∷ bytes) = if nat_lt max_name_length (length (b ∷ bytes)) then Some TooLong else fault (b ∷ bytes)
