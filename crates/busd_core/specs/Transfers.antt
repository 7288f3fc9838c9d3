-- What is known of a reader's and a writer's bytes, after a failure too.
use Rattle.std.specs.Prelude.{◌≡◌, ℕ, ◌≤◌, List, [], ◌++◌, length, take, Option, Result, MatchResult}
use Rattle.std.specs.Io.KnownBytes.{Appends, IsAtEnd}
use Rattle.busd_core.specs.Readings.{Reading, IsRead}

module _ {E : Type 0} where
  -- all the bytes were written, or at an error a front of them
  abbrev pub WritesFront : Option (List ℕ) → Option (List ℕ) → List ℕ → Result (Unit {0}) E → Type 0
  WritesFront old new bytes result =
      MatchResult result (λ _. Appends old new bytes) (λ _. (front missing : List ℕ) × (bytes ≡ front ++ missing) × Appends old new front)

  -- a piece was read, an empty one only at the end, or at an error nothing
  abbrev pub ReadsPiece : (holds old new : Option (List ℕ)) (noted notes : Option (List Reading)) → List ℕ → Result ℕ E → Type 0
  ReadsPiece holds old new noted notes piece result =
      MatchResult result
      (λ n. (n ≤ length piece) × IsRead holds old new noted notes (take n piece) × (n ≡ 0 → IsAtEnd new))
      (λ _. IsRead holds old new noted notes [])
