-- What a flush does to the bytes that wait.
use Rattle.std.specs.Prelude.{◌≡◌, ℕ, List, [], ◌∷◌, ◌++◌, Option}
use Rattle.std.specs.Io.KnownBytes.{Appends}
use Rattle.outgoing.specs.declared.flushed.Flushed.{Flushed}
use Rattle.outgoing.specs.declared.flushed.Flushed.TheVariants.{All, Waits}

-- What waited begins with what the socket took, and the rest waits.
pub record Flushes (old new : List ℕ) (before after : Option (List ℕ)) : Type 0 where
  pub reached : List ℕ
  pub splits : old ≡ reached ++ new
  pub takes : Appends before after reached

-- whether all was taken
abbrev pub flushed_of : List ℕ → Flushed
flushed_of [] = All
flushed_of (byte ∷ bytes) = Waits
