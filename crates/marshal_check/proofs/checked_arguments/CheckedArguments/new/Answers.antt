use Rattle.std.proofs.Common.{[], sym, append-nil}
use Rattle.marshal_check.specs.SignatureTexts.{types_in}
use Rattle.marshal_check.proofs.Shown.{spelled_arguments}
use Rattle.marshal_check.proofs.CheckedSteps.{body_there}
use Rattle.marshal_check.proofs.checked_arguments.CheckedArguments.new.Goals as goal

pub invariant_of-result-clause-there : goal.invariant_of-result-clause-there
invariant_of-result-clause-there c = body_there c.args.order c.args.offset (types_in c.args.types.text.now) c.args.body.now c.requires

pub returns : goal.returns
returns c = λ vs h. spelled_arguments c.args.order c.args.offset (types_in c.args.types.text.now) c.args.body.now c.args.body.now [] vs (sym (append-nil c.args.body.now)) h
