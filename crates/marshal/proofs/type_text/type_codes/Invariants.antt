use Rattle.std.proofs.Common.{◌≡◌, ◌++◌, drop}
use Rattle.marshal_core.specs.Types.{types_of}
use Rattle.marshal_core.specs.Signatures.{codes}
use Rattle.marshal.proofs.type_text.type_codes.Given as goal

abbrev pub invariant-loop-one : goal.invariant-loop-one
invariant-loop-one l = l.output.items ++ codes (types_of (drop l.one-index l.types)) ≡ l.initial.output.items ++ codes (types_of l.types)
