-- Which cookie a keyring gives. (D-Bus Specification: "DBUS_COOKIE_SHA1")
use Rattle.std.specs.Prelude.{ℕ, ◌+◌, nat_le, Bool, ◌&&◌, ◌==◌, Option, Some, None, Result, Ok, Err, List, [], ◌∷◌, length, if◌then◌else◌}
use Rattle.std.specs.Char.{is_ascii_digit}
use Rattle.std.specs.List.{list_all, slice_split}
use Rattle.sasl.specs.declared.fault.KeyringFault.{KeyringFault}
use Rattle.sasl.specs.declared.fault.KeyringFault.TheVariants.{Empty, Line}
use Rattle.sasl.specs.Settings.{Cookie, space}
use Rattle.sasl.specs.Lines.{Word, line_feed}

-- a number of so many digits at most
abbrev pub is_number : ℕ → Word → Bool
is_number most digits = nat_le 1 (length digits) && nat_le (length digits) most && list_all is_ascii_digit digits

-- a letter, a digit or a sign of ASCII
abbrev pub is_visible : ℕ → Bool
is_visible b = nat_le 33 b && nat_le b 126

-- ASCII without spaces, at least one byte
abbrev pub is_secret : Word → Bool
is_secret secret = nat_le 1 (length secret) && list_all is_visible secret

-- a cookie's number, the time when it was made, and the cookie itself
abbrev pub cookie_of : List Word → Option Cookie
cookie_of [] = None
cookie_of (id ∷ []) = None
cookie_of (id ∷ time ∷ []) = None
cookie_of (id ∷ time ∷ secret ∷ []) =
    if is_number 10 id && is_number 20 time && is_secret secret then Some (record { id = id; secret = secret }) else None
cookie_of (id ∷ time ∷ secret ∷ another ∷ others) = None

-- A line has these three, parted by single spaces.
abbrev pub cookie_in : List ℕ → Option Cookie
cookie_in line = cookie_of (slice_split (λ b. b == space) line)

-- Behind the last line feed there is no line where nothing stands.
abbrev pub without_empty_last : List (List ℕ) → List (List ℕ)
without_empty_last [] = []
without_empty_last ([] ∷ []) = []
without_empty_last ((b ∷ line) ∷ []) = (b ∷ line) ∷ []
without_empty_last (line ∷ next ∷ lines) = line ∷ without_empty_last (next ∷ lines)

-- Lines end with a line feed, which the last may lack.
abbrev pub lines_of : List ℕ → List (List ℕ)
lines_of bytes = without_empty_last (slice_split (λ b. b == line_feed) bytes)

-- what lies behind line n, where that reads
abbrev pub unless_bad : ℕ → Option Cookie → Result Cookie KeyringFault → Result Cookie KeyringFault
unless_bad n None behind = Err (Line n)
unless_bad n (Some cookie) behind = behind

-- the cookie that is used, once the lines before line n are read and the last of them had this cookie: each line must read, and the last one's
-- is used
abbrev pub cookie_from : Option Cookie → ℕ → List (List ℕ) → Result Cookie KeyringFault
cookie_from None n [] = Err Empty
cookie_from (Some last) n [] = Ok last
cookie_from before n (line ∷ lines) = unless_bad n (cookie_in line) (cookie_from (cookie_in line) (n + 1) lines)

-- the cookie of a keyring, or what is wrong with it
abbrev pub keyring_cookie : List ℕ → Result Cookie KeyringFault
keyring_cookie bytes = cookie_from None 1 (lines_of bytes)
