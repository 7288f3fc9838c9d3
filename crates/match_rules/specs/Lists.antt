-- Lists whose elements stand in a relation, or by a number.
use Rattle.std.specs.Prelude.{ℕ, nat_lt, List, [], ◌∷◌, if◌then◌else◌}
use Rattle.std.specs.List.{AllByRecursion as Each}

-- each of a list stands in a relation to each behind it
abbrev pub Pairwise : {X : Type 0} → (X → X → Type 0) → List X → Type 0
Pairwise R [] = Unit {0}
Pairwise R (x ∷ xs) = Each (R x) xs × Pairwise R xs

-- the elements with one more, which stands before the first with a higher number
abbrev pub inserted_by : {X : Type 0} → (X → ℕ) → X → List X → List X
inserted_by number x [] = x ∷ []
inserted_by number x (y ∷ ys) = if nat_lt (number x) (number y) then x ∷ y ∷ ys else y ∷ inserted_by number x ys
