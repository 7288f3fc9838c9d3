-- What is read of a stream, and what was written of it by then.
use Rattle.std.specs.Prelude.{◌≡◌, ℕ, List, [], ◌∷◌, ◌++◌, Option, Some, None}
use Rattle.std.specs.Io.KnownBytes.{Consumes}

-- a piece that was read at once, and what the writer held when it was asked for
pub record Reading : Type 0 where
  pub piece : List ℕ
  pub held : List ℕ

-- An empty piece is none.
abbrev pub reading_of : (held piece : List ℕ) → List Reading
reading_of held [] = []
reading_of held (byte ∷ bytes) = record { piece = byte ∷ bytes; held = held } ∷ []

-- Known readings grow by these, where it is known what the writer holds.
abbrev pub Notes : (holds : Option (List ℕ)) (old new : Option (List Reading)) → (List ℕ → List Reading) → Type 0
Notes None old new readings = Unit {0}
Notes (Some held) None new readings = Unit {0}
Notes (Some held) (Some xs) None readings = ⊥
Notes (Some held) (Some xs) (Some ys) readings = ys ≡ xs ++ readings held

-- The next bytes were read, and that is noted.
abbrev pub IsRead : (holds old new : Option (List ℕ)) (noted notes : Option (List Reading)) (piece : List ℕ) → Type 0
IsRead holds old new noted notes piece = Consumes old new piece × Notes holds noted notes (λ held. reading_of held piece)
