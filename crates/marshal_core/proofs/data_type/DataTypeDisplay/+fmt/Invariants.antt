use Rattle.std.proofs.Common.{take}
use Rattle.std.specs.Fmt.{HasWritten, IsPlainFormatter}
use Rattle.marshal_core.specs.Types.{types_of}
use Rattle.marshal_core.specs.Signatures.{codes}
use Rattle.marshal_core.proofs.data_type.DataTypeDisplay.+fmt.Given as goal

abbrev pub invariant-loop-field : goal.invariant-loop-field
invariant-loop-field g l =
    IsPlainFormatter l.initial.f → HasWritten g.W.Write.write_str_gives l.initial.f (codes (types_of (take l.field-index l.field-items))) l.f
