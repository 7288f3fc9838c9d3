use Rattle.std.proofs.Common.{take}
use Rattle.std.specs.Fmt.{HasWritten, IsPlainFormatter}
use Rattle.marshal_core.specs.Types.{types_of}
use Rattle.marshal_core.specs.Signatures.{codes}
use Rattle.marshal_core.proofs.signature.SignatureDisplay.fmt.Given as goal

abbrev pub invariant-loop-one : goal.invariant-loop-one
invariant-loop-one g l =
    IsPlainFormatter l.initial.f → HasWritten g.W.Write.write_str_gives l.initial.f (codes (types_of (take l.one-index l.one-items))) l.f
