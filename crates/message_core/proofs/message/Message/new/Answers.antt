use Rattle.std.proofs.lemmas.Result.{err_from_is_err_and}
use Rattle.marshal_core.specs.Values.{values_of}
use Rattle.marshal.specs.Writing.{types_of_values}
use Rattle.message_core.specs.Headers.{message_of}
use Rattle.message_core.proofs.OwnRefused.{none_encoded}
use Rattle.message_core.proofs.message.Message.new.Goals as goal

pub returns-in_err-body-clause-none : goal.returns-in_err-body-clause-none
returns-in_err-body-clause-none c =
    let values = values_of c.args.values.now in
    let p = err_from_is_err_and c.from_residual.result c.from_residual.ensures.1 in
    rw (p.1, p.2) (λ other. let refused = c.in_err-body.ensures.refused other in none_encoded (message_of c.args.header.now (types_of_values values) values) refused.0 refused.2)
