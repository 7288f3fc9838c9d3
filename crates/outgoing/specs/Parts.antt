-- The parts that the bytes lie in.
use Rattle.std.specs.Prelude.{◌≡◌, ℕ, zero, suc, ◌+◌, ◌<◌, ◌≤◌, List, [], ◌∷◌, ◌++◌, length, ⊤}
use Rattle.outgoing.specs.declared.parts.Part.{Part}
use Rattle.outgoing.specs.declared.parts.Part.TheVariants.{Copied, Whole}

module _ {C : Type 0} (bytes : C → List ℕ) where
  abbrev pub part_bytes : Part C → List ℕ
  part_bytes (Copied copied) = copied.items
  part_bytes (Whole chunk) = bytes chunk

  -- the bytes of the parts, and then of the last one
  abbrev pub bytes_of : List (Part C) → List ℕ → List ℕ
  bytes_of [] last = last
  bytes_of (part ∷ parts) last = part_bytes part ++ bytes_of parts last

  -- the part of this place, the last one being behind the others, and none behind that
  abbrev pub part_at : List (Part C) → List ℕ → ℕ → List ℕ
  part_at [] last zero = last
  part_at [] last (suc place) = []
  part_at (part ∷ parts) last zero = part_bytes part
  part_at (part ∷ parts) last (suc place) = part_at parts last place

  -- no part is empty
  abbrev pub AreFilled : List (Part C) → Type 0
  AreFilled [] = ⊤
  AreFilled (part ∷ parts) = (0 < length (part_bytes part)) × AreFilled parts

  -- Not all of the first part was written. Where it is the last one, it is empty once all of it was.
  abbrev pub IsWithin : ℕ → List (Part C) → List ℕ → Type 0
  IsWithin written [] last = length last ≤ written → written + length last ≡ 0
  IsWithin written (part ∷ parts) last = (written < length (part_bytes part)) × AreFilled parts
