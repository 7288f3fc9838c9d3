use Rattle.sasl.proofs.Outcomes.{outcome, outcome_is}
use Rattle.sasl.proofs.laws.each_text_has_one_outcome.Goals as goal

pub returns : goal.returns
returns c = λ s from text. (outcome s from text, outcome_is s from text)
