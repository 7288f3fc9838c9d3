use Rattle.sasl.proofs.Splitting.{none_left}
use Rattle.sasl.proofs.words.Words.is_empty.Goals as goal

pub returns : goal.returns
returns c = rw (← c.self.view_is) (none_left 32 c.self.inside.left c.is_none.result c.is_none.ensures)
