-- How contracts see the ends of lines, and the words of a line as they are taken off it.
use Rattle.std.specs.Prelude.{◌≡◌, ℕ, Bool, false, ◌==◌, Option, Some, None, List, [], ◌∷◌}
use Rattle.std.specs.Borrow.{Bor}
use Rattle.std.specs.List.{slice_split}
use Rattle.sasl.specs.Lines.{carriage_return}

-- the parts of what stands behind a cut; none where there was none
abbrev pub parts_of : ℕ → Option (Bor (List ℕ)) → List (List ℕ)
parts_of at None = []
parts_of at (Some behind) = slice_split (λ b. b == at) behind.now

-- The first is taken off, where there is one.
abbrev pub TakesFirst : List (List ℕ) → Option (Bor (List ℕ)) → List (List ℕ) → Type 0
TakesFirst old None new = (old ≡ []) × (new ≡ [])
TakesFirst old (Some first) new = old ≡ first.now ∷ new

-- a carriage return is the last byte
abbrev pub ends_with_return : List ℕ → Bool
ends_with_return [] = false
ends_with_return (a ∷ []) = a == carriage_return
ends_with_return (a ∷ b ∷ bytes) = ends_with_return (b ∷ bytes)
