-- The lines of a client, and their words. (D-Bus Specification: "Protocol Overview")
use Rattle.std.specs.Prelude.{◌≡◌, ℕ, ◌+◌, ◌≤◌, nat_le, Bool, false, ◌&&◌, ◌||◌, ◌==◌, codes, List, [], ◌∷◌, ◌++◌, length, Option, Some, None, Result, Ok, Err, if◌then◌else◌}
use Rattle.std.specs.List.{list_all, slice_split}
use Rattle.hex.specs.Hex.{decode_of}
use Rattle.hex.specs.declared.error.FromHexError.{FromHexError}
use Rattle.sasl.specs.Settings.{space}

abbrev pub Word : Type 0
Word = List ℕ

-- the most bytes of a line, with its end
abbrev pub max_line : ℕ
max_line = 4096

abbrev pub carriage_return : ℕ
carriage_return = 13

abbrev pub line_feed : ℕ
line_feed = 10

-- what ends a line
abbrev pub line_end : List ℕ
line_end = carriage_return ∷ line_feed ∷ []

-- whether a carriage return stands anywhere right before a line feed
abbrev pub has_end : List ℕ → Bool
has_end [] = false
has_end (a ∷ []) = false
has_end (a ∷ b ∷ bytes) = ((a == carriage_return) && (b == line_feed)) || has_end (b ∷ bytes)

-- The text is a line, the first end of a line, and a rest. The line is no longer than it may be.
pub record IsFirstLine (text line rest : List ℕ) : Type 0 where
  pub text_is : text ≡ line ++ line_end ++ rest
  pub first : has_end line ≡ false
  pub fits : length line + 2 ≤ max_line

-- No end of a line stands within the bytes that a line may have.
pub record IsTooLong (text : List ℕ) : Type 0 where
  pub front : List ℕ
  pub rest : List ℕ
  pub text_is : text ≡ front ++ rest
  pub long : length front ≡ max_line
  pub endless : has_end front ≡ false

-- a letter, a digit, a sign or a space of ASCII
abbrev pub is_printable : ℕ → Bool
is_printable b = nat_le 32 b && nat_le b 126

-- The words of a line are parted by single spaces. A line with any other byte has none.
abbrev pub words : List ℕ → List Word
words line = if list_all is_printable line then slice_split (λ b. b == space) line else []

abbrev pub ok_of : Result (List ℕ) FromHexError → Option (List ℕ)
ok_of (Ok bytes) = Some bytes
ok_of (Err e) = None

-- the bytes of which a word is the hex, in either case; none where it is no hex
abbrev pub hex_value : Word → Option (List ℕ)
hex_value word = ok_of (decode_of word)

-- The word is the hex of the bytes.
abbrev pub IsHexOf : Word → List ℕ → Type 0
IsHexOf word bytes = hex_value word ≡ Some bytes

-- the words of the standard
abbrev pub auth : Word
auth = codes "AUTH"

abbrev pub cancel : Word
cancel = codes "CANCEL"

abbrev pub begin : Word
begin = codes "BEGIN"

abbrev pub response : Word
response = codes "DATA"

abbrev pub error : Word
error = codes "ERROR"

-- the mechanisms that the server knows
abbrev pub cookie_sha1 : Word
cookie_sha1 = codes "DBUS_COOKIE_SHA1"

abbrev pub anonymous : Word
anonymous = codes "ANONYMOUS"
