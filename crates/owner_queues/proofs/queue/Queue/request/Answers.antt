use Rattle.std.proofs.Common.{rules}
use Rattle.owner_queues.proofs.PlaceLemmas.{room-without, kept_by}
use Rattle.owner_queues.proofs.queue.Queue.request.Goals as goal

pub replace_owner-requires-clause-room : goal.replace_owner-requires-clause-room
replace_owner-requires-clause-room c = room-without c.entry_of-entry.result.connection c.self.inside.places.items (search rules) (search rules)

pub invariant_of-self-then-flags : goal.invariant_of-self-then-flags
invariant_of-self-then-flags c = kept_by c.args.profile c.args.connection c.args.flags c.self.inside.places.items c.replace_owner.new.places.items c.self.invariant (search rules)

pub invariant_of-self-then-flags-2 : goal.invariant_of-self-then-flags-2
invariant_of-self-then-flags-2 c = kept_by c.args.profile c.args.connection c.args.flags c.self.inside.places.items c.take_out.new.places.items c.self.invariant (search rules)

pub wait_first-requires-clause-room : goal.wait_first-requires-clause-room
wait_first-requires-clause-room c = room-without c.entry_of-entry.result.connection c.self.inside.places.items (search rules) (search rules)

pub invariant_of-self-then-eq : goal.invariant_of-self-then-eq
invariant_of-self-then-eq c = kept_by c.args.profile c.args.connection c.args.flags c.self.inside.places.items c.wait_first.new.places.items c.self.invariant (search rules)

pub invariant_of-self-else-flags-3 : goal.invariant_of-self-else-flags-3
invariant_of-self-else-flags-3 c = kept_by c.args.profile c.args.connection c.args.flags c.self.inside.places.items c.wait.new.places.items c.self.invariant (search rules)
