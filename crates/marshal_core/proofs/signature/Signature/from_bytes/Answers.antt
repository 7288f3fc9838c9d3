use Rattle.marshal_core.specs.Types.{types_of}
use Rattle.marshal_core.proofs.TypesTaken.{signature_takes}
use Rattle.marshal_core.proofs.signature.Signature.from_bytes.Goals as goal

pub invariant_of-result : goal.invariant_of-result
invariant_of-result c = record { valid = (signature_takes c.args.text.now (types_of c.in_ok-types.types.items) c.in_ok-types.ensures).0 }
