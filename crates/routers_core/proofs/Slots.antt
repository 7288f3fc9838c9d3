-- A fact about each item that stands at a slot, where there is one.
use Rattle.std.proofs.Common.{◌≡◌, ℕ, ◌<◌, List, length, inl, inr, arith}
use Rattle.std.specs.Prelude.{Some, slice_get}
use Rattle.std.proofs.lemmas.Option.{slice_get_cases}

pub at_slot : {E Q : Type 0} (xs : List E) (slot : ℕ) → slot < length xs → ((e : E) → slice_get xs slot ≡ Some e → Q) → Q
at_slot xs slot within told = elim (slice_get_cases xs slot).1 [
  | inl found ↦ told found.0 found.2
  | inr past ↦ absurd (omega (arith, within, past.0))
]
