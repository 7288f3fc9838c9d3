use Rattle.sasl.proofs.Runs.{conversation_goes_on}
use Rattle.sasl.proofs.laws.pieces_are_one_text.Goals as goal

pub returns : goal.returns
returns c = λ s from text sent mid left piece more to rest d k. conversation_goes_on s from text sent mid left d piece more to rest k
