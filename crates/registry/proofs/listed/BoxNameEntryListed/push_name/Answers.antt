use Rattle.registry.proofs.listed.BoxNameEntryListed.push_name.Goals as goal

pub returns-clause-listed : goal.returns-clause-listed
returns-clause-listed c = rw c.deref.ensures at c.push_name.ensures.listed
