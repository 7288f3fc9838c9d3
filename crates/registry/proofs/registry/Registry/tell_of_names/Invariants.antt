use Rattle.std.proofs.Common.{◌≡◌, take, filter, flat_map}
use Rattle.owner_queues.specs.Queues.{is_in}
use Rattle.registry.specs.Departures.{told_of_name}
use Rattle.registry.proofs.registry.Registry.tell_of_names.Given as goal

-- the signals of so many names of the connection
abbrev pub invariant-loop-n : goal.invariant-loop-n
invariant-loop-n l = l.signals ≡ flat_map (told_of_name l.after l.departure l.connection) (take l.n (filter (λ m. is_in l.connection m.queue) l.self.names))
