use Rattle.outbox_core.proofs.DeliveryLaws.{nobody_else_gets_it}
use Rattle.outbox_core.proofs.laws.nobody_else_gets_it.Goals as goal

pub returns : goal.returns
returns c = nobody_else_gets_it
