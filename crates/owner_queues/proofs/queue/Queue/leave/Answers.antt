use Rattle.owner_queues.proofs.QueueLemmas.{queue-without}
use Rattle.owner_queues.proofs.queue.Queue.leave.Goals as goal

pub invariant_of-self : goal.invariant_of-self
invariant_of-self c = rw c.take_out.ensures (queue-without c.args.connection c.self.inside.places.items c.self.invariant)
