use Rattle.std.proofs.Common.{◌≡◌, take, map}
use Rattle.marshal_core.specs.Types.{ty_of}
use Rattle.marshal_core.proofs.data_type.DataType.+try_clone.Given as goal

abbrev pub invariant-loop-field : goal.invariant-loop-field
invariant-loop-field l = map ty_of l.copies.items ≡ map ty_of (take l.field-index l.field-items)
