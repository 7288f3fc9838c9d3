use Rattle.std.proofs.Common.{◌≡◌, ℕ, ◌+◌, ◌*◌, ◌≤◌, ◌<◌, ◌++◌, List, true, length, ◌⊎◌}
use Rattle.marshal_core.specs.Types.{Ty, Tys}
use Rattle.marshal_core.specs.Values.{Val}
use Rattle.marshal_core.specs.Signatures.{code, codes}
use Rattle.marshal_core.specs.Reading.{value_at, elements_at, fields_at}
use Rattle.marshal.proofs.Loops.{ElementsSoFar}
use Rattle.marshal_check.specs.Checking.{is_end}
use Rattle.marshal_check.proofs.Skipping.{TextsSoFar}
use Rattle.marshal_check.proofs.checking.+values.Given as goal

abbrev pub decreases-value : goal.decreases-value
decreases-value g l = 5 * l.depth + 1

abbrev pub decreases-container : goal.decreases-container
decreases-container g l = 5 * l.depth

abbrev pub decreases-variant : goal.decreases-variant
decreases-variant g l = 5 * l.depth + 4

abbrev pub decreases-array : goal.decreases-array
decreases-array g l = 5 * l.depth + 4

abbrev pub decreases-entry : goal.decreases-entry
decreases-entry g l = 5 * l.depth + 4

abbrev pub decreases-structure : goal.decreases-structure
decreases-structure g l = 5 * l.depth + 4

abbrev pub decreases-elements : goal.decreases-elements
decreases-elements g l = 5 * l.depth + 3

abbrev pub decreases-each_element : goal.decreases-each_element
decreases-each_element g l = 5 * l.depth + 2

abbrev pub decreases-fields : goal.decreases-fields
decreases-fields g l = 5 * l.depth + 3

abbrev pub invariant-each_element-each : goal.invariant-each_element-each
invariant-each_element-each g l = record {
  reads : (t : Ty) (tail : List ℕ) → l.of ≡ code t ++ tail → (front : List Val) × ElementsSoFar (value_at l.depth g.O.Endian.order) t front l.place l.rest (elements_at (value_at l.depth g.O.Endian.order) t (length l.bytes) l.at l.bytes);
  place : l.place + length l.rest ≡ l.at + length l.bytes;
}

abbrev pub decreases-each_element-each : goal.decreases-each_element-each
decreases-each_element-each g l = length l.rest

abbrev pub invariant-fields-each : goal.invariant-fields-each
invariant-fields-each g l = record {
  reads : (ts : Tys) (tail : List ℕ) → l.of ≡ codes ts ++ tail → is_end tail ≡ true → TextsSoFar (value_at l.depth g.O.Endian.order) l.short tail l.types l.place l.rest (fields_at (value_at l.depth g.O.Endian.order) l.short ts l.at l.bytes);
  place : l.place + length l.rest ≡ l.at + length l.bytes;
  within : length l.rest ≤ length l.bytes;
  begun : (length l.rest < length l.bytes) ⊎ (l.types ≡ l.of);
}

abbrev pub decreases-fields-each : goal.decreases-fields-each
decreases-fields-each g l = length l.types
