use Rattle.std.proofs.Common.{ap, ◌∙◌}
use Rattle.marshal_core.specs.Signatures.{signature_of}
use Rattle.marshal_core.proofs.TypesAgain.{signature_again}
use Rattle.marshal_core.proofs.TypesTaken.{signature_takes}
use Rattle.marshal_core.proofs.laws.signatures_are_exact.Goals as goal

pub returns : goal.returns
returns c = λ text ts. (signature_takes text ts, λ h. ap signature_of h.1 ∙ signature_again ts h.0)
