use Rattle.seq_bus.proofs.PlainLemmas.{all_made_seen}
use Rattle.seq_bus.proofs.plain.SeqBusBusView.change_all.Goals as goal

pub returns-in-Ok-clause-made : goal.returns-in-Ok-clause-made
returns-in-Ok-clause-made c =
    all_made_seen c.args.self.now c.change_all-made.new.self c.args.changes.items c.in-Ok.outcomes.items c.in-Ok.ensures.batch.0 c.in-Ok.ensures.made c.history-legal.ensures.own c.history-legal-2.ensures.legal c.history-legal-2.ensures.own
