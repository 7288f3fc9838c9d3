use Rattle.seq_bus_core.proofs.RecipientLaws.{recipients_are_named_once}
use Rattle.seq_bus_core.proofs.laws.recipients_are_named_once.Goals as goal

pub returns : goal.returns
returns c = recipients_are_named_once
