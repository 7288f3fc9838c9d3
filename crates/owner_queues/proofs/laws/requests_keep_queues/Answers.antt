use Rattle.owner_queues.proofs.QueueLaws.{requests_keep}
use Rattle.owner_queues.proofs.laws.requests_keep_queues.Goals as goal

pub returns : goal.returns
returns c = requests_keep
