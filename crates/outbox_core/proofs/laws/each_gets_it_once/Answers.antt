use Rattle.outbox_core.proofs.DeliveryLaws.{each_gets_it_once}
use Rattle.outbox_core.proofs.laws.each_gets_it_once.Goals as goal

pub returns : goal.returns
returns c = each_gets_it_once
