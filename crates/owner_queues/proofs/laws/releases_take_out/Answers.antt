use Rattle.owner_queues.proofs.QueueLaws.{releases_take}
use Rattle.owner_queues.proofs.laws.releases_take_out.Goals as goal

pub returns : goal.returns
returns c = releases_take
