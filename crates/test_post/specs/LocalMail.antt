-- The mail of a bus of one thread.
use Rattle.std.specs.Prelude.{◌≡◌, ℕ, Some, List, [], ◌∷◌, ◌++◌, slice_get, slice_set}

module _ {E : Type 0} where
  -- An envelope stands behind those that wait for the slot, and nothing else is put.
  abbrev pub Puts : List (List E) → ℕ → E → List (List E) → Type 0
  Puts before slot envelope after =
      (mail : List E) × (slice_get before slot ≡ Some mail)
      × (after ≡ slice_set before slot (mail ++ envelope ∷ []))

  -- No envelope waits for the slot.
  abbrev pub IsEmptyAt : List (List E) → ℕ → Type 0
  IsEmptyAt before slot = (mail : List E) → slice_get before slot ≡ Some mail → mail ≡ []

  -- The envelope that came first of those for the slot is taken, and no other.
  abbrev pub Takes : List (List E) → ℕ → E → List (List E) → Type 0
  Takes before slot envelope after =
      (rest : List E) × (slice_get before slot ≡ Some (envelope ∷ rest))
      × (after ≡ slice_set before slot rest)
