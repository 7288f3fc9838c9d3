use Rattle.seq_bus.proofs.bus.SeqBus.history.Goals as goal

pub returns-clause-legal : goal.returns-clause-legal
returns-clause-legal c = rw (← c.self.view_is) c.self.invariant.own.legal

pub returns-clause-own : goal.returns-clause-own
returns-clause-own c = rw (← c.self.view_is) c.self.invariant.own.seats
