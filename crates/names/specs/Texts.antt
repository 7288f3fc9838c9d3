-- Texts are lists of bytes. How they are compared and ordered, and which are plain.
use Rattle.std.specs.Prelude.{◌≡◌, ℕ, nat_eq, Bool, false, ◌||◌, ◌==◌, List, [], ◌∷◌, IsAscii}
use Rattle.std.specs.Cmp.Lexicographic.{pointwise, slice_cmp}
use Rattle.std.specs.Ordering.{nat_cmp, is_lt}

abbrev pub Text : Type 0
Text = List ℕ

-- the same bytes
abbrev pub text_eq : Text → Text → Bool
text_eq a b = pointwise nat_eq a b

-- a comes before b, by bytes
abbrev pub text_lt : Text → Text → Bool
text_lt a b = is_lt (slice_cmp nat_cmp a b)

-- a byte is zero
abbrev pub has_zero : List ℕ → Bool
has_zero [] = false
has_zero (b ∷ bs) = b == 0 || has_zero bs

-- ASCII without zero bytes
abbrev pub IsPlain : Text → Type 0
IsPlain text = IsAscii text × (has_zero text ≡ false)
