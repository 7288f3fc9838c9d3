use Rattle.std.proofs.Common.{◌≡◌, ◌++◌, drop}
use Rattle.marshal_core.specs.Values.{values_of}
use Rattle.marshal_core.specs.Signatures.{codes}
use Rattle.marshal.specs.Writing.{types_of_values}
use Rattle.marshal.proofs.type_text.+value_code.Given as goal

abbrev pub invariant-loop-field : goal.invariant-loop-field
invariant-loop-field l = l.output.items ++ codes (types_of_values (values_of (drop l.field-index l.field-items))) ≡ l.initial.output.items ++ codes (types_of_values (values_of l.field-items))
