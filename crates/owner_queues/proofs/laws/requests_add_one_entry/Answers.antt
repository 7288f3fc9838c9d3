use Rattle.owner_queues.proofs.QueueLaws.{requests_add, requests_lengthen}
use Rattle.owner_queues.proofs.laws.requests_add_one_entry.Goals as goal

pub returns : goal.returns
returns c = (requests_add, requests_lengthen)
