use Rattle.std.proofs.Common.{◌+◌, ◌*◌, ◌≤◌, length, map}
use Rattle.marshal_core.specs.Types.{ty_of}
use Rattle.marshal_core.specs.Signatures.{type_at, types_at}
use Rattle.marshal_core.proofs.TypesLoop.{TypesSoFar}
use Rattle.marshal_core.proofs.parsing.+types.Given as goal

abbrev pub decreases-array_type : goal.decreases-array_type
decreases-array_type l = 4 * (l.arrays + l.structs) + 2

abbrev pub decreases-complete_type : goal.decreases-complete_type
decreases-complete_type l = 4 * (l.arrays + l.structs)

abbrev pub decreases-entry_type : goal.decreases-entry_type
decreases-entry_type l = 4 * (l.arrays + l.structs) + 1

abbrev pub decreases-struct_type : goal.decreases-struct_type
decreases-struct_type l = 4 * (l.arrays + l.structs) + 2

abbrev pub decreases-types : goal.decreases-types
decreases-types l = 4 * (l.arrays + l.structs) + 1

abbrev pub invariant-types-each : goal.invariant-types-each
invariant-types-each l = record {
  reads : TypesSoFar l.inside (type_at (l.arrays + l.structs + 1) l.arrays l.structs) (map ty_of l.types.items) l.rest (types_at l.inside (type_at (l.arrays + l.structs + 1) l.arrays l.structs) (length l.text) l.text);
  within : length l.rest ≤ length l.text;
}

abbrev pub decreases-types-each : goal.decreases-types-each
decreases-types-each l = length l.rest
