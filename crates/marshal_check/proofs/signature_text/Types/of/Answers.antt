use Rattle.std.proofs.Common.{◌≡◌, [], ◌++◌}
use Rattle.marshal_core.specs.Types.{types_of}
use Rattle.marshal_core.specs.Signatures.{codes}
use Rattle.marshal_check.proofs.Splits.{text_types, text_valid}
use Rattle.marshal_check.proofs.signature_text.Types.of.Goals as goal

pub invariant_of-result : goal.invariant_of-result
invariant_of-result c =
    let e : c.as_slice.result.now ≡ [] ++ codes (types_of c.args.signature.now.types.items) = cc (c.as_slice.ensures.value, c.in_ok-type_codes.ensures, c.clear.ensures.items, c.deref.ensures.value) in
    record { valid = text_valid c.as_slice.result.now (types_of c.args.signature.now.types.items) c.args.signature.now.valid e }

pub returns : goal.returns
returns c =
    let e : c.as_slice.result.now ≡ [] ++ codes (types_of c.args.signature.now.types.items) = cc (c.as_slice.ensures.value, c.in_ok-type_codes.ensures, c.clear.ensures.items, c.deref.ensures.value) in
    text_types c.as_slice.result.now (types_of c.args.signature.now.types.items) c.args.signature.now.valid e
