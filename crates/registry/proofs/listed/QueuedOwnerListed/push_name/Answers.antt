use Rattle.registry.proofs.listed.QueuedOwnerListed.push_name.Goals as goal

pub returns-clause-listed : goal.returns-clause-listed
returns-clause-listed c = rw c.of.ensures at c.push_connection.ensures.listed
