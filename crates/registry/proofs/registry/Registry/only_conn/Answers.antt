use Rattle.std.proofs.Common.{subst}
use Rattle.seq_bus_core.specs.Consistency.{IsConsistent}
use Rattle.registry.proofs.ListeningLemmas.{conn_at_is}
use Rattle.registry.proofs.registry.Registry.only_conn.Goals as goal

pub returns-clause-value : goal.returns-clause-value
returns-clause-value c = conn_at_is c.args.self.now c.args.number c.conn.result (subst IsConsistent c.self.view_is c.self.invariant.consistent) c.conn.ensures
