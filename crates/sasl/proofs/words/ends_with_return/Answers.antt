use Rattle.sasl.proofs.Ends.{last_byte}
use Rattle.sasl.proofs.words.ends_with_return.Goals as goal

pub returns-in-Some : goal.returns-in-Some
returns-in-Some c = last_byte c.args.line.now c.in-Some.byte.now c.in-Some.ensures.value
