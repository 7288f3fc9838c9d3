-- How contracts see signatures that borrow their text.
use Rattle.std.specs.Prelude.{List}
use Rattle.marshal_core.specs.Types.{Tys}
use Rattle.marshal_check.specs.declared.signature_text.Types.{Types}
use Rattle.marshal_check.specs.declared.complete_types.CompleteTypes.{CompleteTypes}
use Rattle.marshal_check.specs.SignatureTexts.{types_in, each_alone}

abbrev pub its_types : Types → Tys
its_types x = types_in x.text.now

abbrev pub types_left : CompleteTypes → List Tys
types_left s = each_alone (its_types s.types)
