use Rattle.owner_queues.proofs.QueueLaws.{requests_told}
use Rattle.owner_queues.proofs.laws.requests_are_told_the_owner.Goals as goal

pub returns : goal.returns
returns c = requests_told
