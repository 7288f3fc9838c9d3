-- The lines of a file that are left.
use Rattle.std.proofs.Common.{ℕ, ◌+◌, List, length, Option, Some, None}
use Rattle.std.specs.Borrow.{Bor}

-- their bytes, with the line feed that they stand behind
abbrev pub bytes_left : Option (Bor (List ℕ)) → ℕ
bytes_left None = 0
bytes_left (Some behind) = length behind.now + 1
