use Rattle.owner_queues.proofs.QueueLaws.{profiles_alike}
use Rattle.owner_queues.proofs.laws.profiles_agree.Goals as goal

pub returns : goal.returns
returns c = profiles_alike
