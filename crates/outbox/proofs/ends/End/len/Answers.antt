use Rattle.outbox.proofs.Rules.{shows}
use Rattle.outbox.proofs.ends.End.len.Goals as goal

pub len_as-requires-clause-rule : goal.len_as-requires-clause-rule
len_as-requires-clause-rule g c = shows _ _
