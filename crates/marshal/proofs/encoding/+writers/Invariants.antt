use Rattle.std.proofs.Common.{◌≡◌, ◌+◌, ◌*◌, map, drop, []}
use Rattle.marshal_core.specs.Types.{ty_of, entry}
use Rattle.marshal_core.specs.Values.{values, values_of, entry_of}
use Rattle.marshal.specs.Writing.{elements_written, fields_written}
use Rattle.marshal.proofs.encoding.+writers.Given as goal

abbrev pub decreases-value : goal.decreases-value
decreases-value g l = 4 * l.depth

abbrev pub decreases-variant : goal.decreases-variant
decreases-variant g l = 4 * l.depth + 2

abbrev pub decreases-array : goal.decreases-array
decreases-array g l = 4 * l.depth + 2

abbrev pub decreases-dictionary : goal.decreases-dictionary
decreases-dictionary g l = 4 * l.depth + 2

abbrev pub decreases-one_entry : goal.decreases-one_entry
decreases-one_entry g l = 4 * l.depth

abbrev pub decreases-structure : goal.decreases-structure
decreases-structure g l = 4 * l.depth + 2

abbrev pub decreases-elements : goal.decreases-elements
decreases-elements g l = 4 * l.depth + 1

abbrev pub decreases-entries : goal.decreases-entries
decreases-entries g l = 4 * l.depth + 1

abbrev pub decreases-fields : goal.decreases-fields
decreases-fields g l = 4 * l.depth + 1

abbrev pub invariant-elements-loop-one : goal.invariant-elements-loop-one
invariant-elements-loop-one g l = elements_written (values_of (drop l.one-index l.items)) l.depth g.O.Endian.order l.at (ty_of l.of) l.inside.items ≡ elements_written (values_of l.items) l.depth g.O.Endian.order l.at (ty_of l.of) []

abbrev pub invariant-entries-loop-one : goal.invariant-entries-loop-one
invariant-entries-loop-one g l = elements_written (values (map entry_of (drop l.one-index l.items))) l.depth g.O.Endian.order l.at (entry l.fn.key (ty_of l.of)) l.inside.items ≡ elements_written (values (map entry_of l.items)) l.depth g.O.Endian.order l.at (entry l.fn.key (ty_of l.of)) []

abbrev pub invariant-fields-loop-one : goal.invariant-fields-loop-one
invariant-fields-loop-one g l = fields_written (values_of (drop l.one-index l.of)) l.depth g.O.Endian.order l.at l.output.items ≡ fields_written (values_of l.of) l.depth g.O.Endian.order l.at l.initial.output.items
