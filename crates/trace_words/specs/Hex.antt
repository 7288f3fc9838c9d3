-- Texts in lower-case hex.
use Rattle.std.specs.Prelude.{ℕ, nat_lt, Bool, ◌&&◌, ◌==◌, Option, Some, None, List, [], ◌∷◌, if◌then◌else◌}
use Rattle.std.specs.List.{list_any}
use Rattle.std.specs.Result.{result_ok}
use Rattle.std.specs.Str.{is_utf8}
use Rattle.hex.specs.Hex.{decode_of}
use Rattle.names.specs.Texts.{Text}

abbrev pub is_upper_case : ℕ → Bool
is_upper_case b = nat_lt 64 b && nat_lt b 91

-- the bytes of digits in lower case
abbrev pub hex_bytes : Text → Option (List ℕ)
hex_bytes digits = if list_any is_upper_case digits then None else result_ok (decode_of digits)

abbrev pub utf8_of : List ℕ → Option Text
utf8_of bytes = if is_utf8 bytes then Some bytes else None

-- an x, and the bytes in hex
abbrev pub bytes_of : Text → Option (List ℕ)
bytes_of [] = None
bytes_of (b ∷ digits) = if b == 120 then hex_bytes digits else None
