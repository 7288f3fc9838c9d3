use Rattle.std.proofs.Common.{◌≡◌, ◌++◌, drop}
use Rattle.marshal_core.specs.Values.{values_of}
use Rattle.marshal_core.specs.Signatures.{codes}
use Rattle.marshal.specs.Writing.{types_of_values}
use Rattle.marshal.proofs.type_text.value_codes.Given as goal

abbrev pub invariant-loop-value : goal.invariant-loop-value
invariant-loop-value l = l.output.items ++ codes (types_of_values (values_of (drop l.value-index l.values))) ≡ l.initial.output.items ++ codes (types_of_values (values_of l.values))
