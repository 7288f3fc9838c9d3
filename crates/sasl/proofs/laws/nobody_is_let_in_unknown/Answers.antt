use Rattle.sasl.proofs.LetIn.{let_in}
use Rattle.sasl.proofs.laws.nobody_is_let_in_unknown.Goals as goal

pub returns : goal.returns
returns c = λ s text sent identity n left d. let_in s identity 0 n text sent left d
