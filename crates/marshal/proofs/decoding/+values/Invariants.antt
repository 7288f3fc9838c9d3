use Rattle.std.proofs.Common.{◌≡◌, ◌+◌, ◌*◌, ◌≤◌, length, map, drop}
use Rattle.marshal_core.specs.Types.{ty_of, types_of, entry}
use Rattle.marshal_core.specs.Values.{val_of, entry_of}
use Rattle.marshal_core.specs.Reading.{value_at, elements_at, fields_at}
use Rattle.marshal.proofs.Loops.{ElementsSoFar, FieldsSoFar}
use Rattle.marshal.proofs.decoding.+values.Given as goal

abbrev pub decreases-value : goal.decreases-value
decreases-value g l = 4 * l.depth

abbrev pub decreases-variant : goal.decreases-variant
decreases-variant g l = 4 * l.depth + 2

abbrev pub decreases-array : goal.decreases-array
decreases-array g l = 4 * l.depth + 2

abbrev pub decreases-dictionary : goal.decreases-dictionary
decreases-dictionary g l = 4 * l.depth + 2

abbrev pub decreases-one_entry : goal.decreases-one_entry
decreases-one_entry g l = 4 * l.depth

abbrev pub decreases-key_and_value : goal.decreases-key_and_value
decreases-key_and_value g l = 4 * l.depth + 2

abbrev pub decreases-structure : goal.decreases-structure
decreases-structure g l = 4 * l.depth + 3

abbrev pub decreases-fields_of : goal.decreases-fields_of
decreases-fields_of g l = 4 * l.depth + 2

abbrev pub decreases-elements : goal.decreases-elements
decreases-elements g l = 4 * l.depth + 1

abbrev pub decreases-entries : goal.decreases-entries
decreases-entries g l = 4 * l.depth + 1

abbrev pub decreases-fields : goal.decreases-fields
decreases-fields g l = 4 * l.depth + 1

abbrev pub invariant-elements-each : goal.invariant-elements-each
invariant-elements-each g l = record {
  reads : ElementsSoFar (value_at l.depth g.O.Endian.order) (ty_of l.of) (map val_of l.items.items) l.place l.rest (elements_at (value_at l.depth g.O.Endian.order) (ty_of l.of) (length l.bytes) l.at l.bytes);
  place : l.place + length l.rest ≡ l.at + length l.bytes;
}

abbrev pub decreases-elements-each : goal.decreases-elements-each
decreases-elements-each g l = length l.rest

abbrev pub invariant-entries-each : goal.invariant-entries-each
invariant-entries-each g l = record {
  reads : ElementsSoFar (value_at l.depth g.O.Endian.order) (entry l.key (ty_of l.of)) (map entry_of l.items.items) l.place l.rest (elements_at (value_at l.depth g.O.Endian.order) (entry l.key (ty_of l.of)) (length l.bytes) l.at l.bytes);
  place : l.place + length l.rest ≡ l.at + length l.bytes;
}

abbrev pub decreases-entries-each : goal.decreases-entries-each
decreases-entries-each g l = length l.rest

abbrev pub invariant-fields-loop-one : goal.invariant-fields-loop-one
invariant-fields-loop-one g l = record {
  reads : FieldsSoFar (value_at l.depth g.O.Endian.order) l.short (map ty_of (drop l.one-index l.of)) (map val_of l.items.items) l.place l.rest (fields_at (value_at l.depth g.O.Endian.order) l.short (types_of l.of) l.at l.bytes);
  place : l.place + length l.rest ≡ l.at + length l.bytes;
  within : length l.rest + l.one-index ≤ length l.bytes;
}
