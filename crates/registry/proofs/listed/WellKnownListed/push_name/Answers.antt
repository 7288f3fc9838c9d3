use Rattle.registry.proofs.listed.WellKnownListed.push_name.Goals as goal

pub returns-clause-listed : goal.returns-clause-listed
returns-clause-listed c = rw c.from.ensures at c.push_name.ensures.listed
