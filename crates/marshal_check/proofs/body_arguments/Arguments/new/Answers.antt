use Rattle.marshal_check.specs.SignatureTexts.{types_in}
use Rattle.marshal_check.proofs.Shown.{spelled_arguments}
use Rattle.marshal_check.proofs.body_arguments.Arguments.new.Goals as goal

pub returns-clause-values : goal.returns-clause-values
returns-clause-values c = λ vs front rest e h. spelled_arguments c.args.order c.args.offset (types_in c.args.types.text.now) c.args.body.now front rest vs e h
