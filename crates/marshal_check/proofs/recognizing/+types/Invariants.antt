use Rattle.std.proofs.Common.{◌+◌, ◌*◌, ◌≤◌, List, length}
use Rattle.marshal_core.specs.Types.{Ty}
use Rattle.marshal_core.specs.Signatures.{type_at, types_at}
use Rattle.marshal_core.proofs.TypesLoop.{TypesSoFar}
use Rattle.marshal_check.proofs.recognizing.+types.Given as goal

abbrev pub decreases-after_array : goal.decreases-after_array
decreases-after_array l = 4 * (l.arrays + l.structs) + 2

abbrev pub decreases-after_type : goal.decreases-after_type
decreases-after_type l = 4 * (l.arrays + l.structs)

abbrev pub decreases-after_entry : goal.decreases-after_entry
decreases-after_entry l = 4 * (l.arrays + l.structs) + 1

abbrev pub decreases-after_struct : goal.decreases-after_struct
decreases-after_struct l = 4 * (l.arrays + l.structs) + 2

abbrev pub decreases-after_types : goal.decreases-after_types
decreases-after_types l = 4 * (l.arrays + l.structs) + 1

abbrev pub invariant-after_types-each : goal.invariant-after_types-each
invariant-after_types-each l = record {
  reads : (front : List Ty) × TypesSoFar l.inside (type_at (l.arrays + l.structs + 1) l.arrays l.structs) front l.rest (types_at l.inside (type_at (l.arrays + l.structs + 1) l.arrays l.structs) (length l.text) l.text);
  within : length l.rest ≤ length l.text;
}

abbrev pub decreases-after_types-each : goal.decreases-after_types-each
decreases-after_types-each l = length l.rest
