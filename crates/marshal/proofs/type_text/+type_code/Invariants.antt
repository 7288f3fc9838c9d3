use Rattle.std.proofs.Common.{◌≡◌, ◌++◌, drop}
use Rattle.marshal_core.specs.Types.{types_of}
use Rattle.marshal_core.specs.Signatures.{codes}
use Rattle.marshal.proofs.type_text.+type_code.Given as goal

abbrev pub invariant-loop-field : goal.invariant-loop-field
invariant-loop-field l = l.output.items ++ codes (types_of (drop l.field-index l.field-items)) ≡ l.initial.output.items ++ codes (types_of l.field-items)
