use Rattle.registry.proofs.listed.ConnectionEntryListed.push_name.Goals as goal

pub returns-clause-listed : goal.returns-clause-listed
returns-clause-listed c = rw c.if-self.false (rw c.of.ensures at c.push_connection.ensures.listed)
