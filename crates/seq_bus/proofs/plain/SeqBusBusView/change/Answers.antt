use Rattle.seq_bus.proofs.plain.SeqBusBusView.change.Goals as goal
use Rattle.seq_bus.proofs.PlainLemmas.{made_seen}

pub returns-in-Ok-clause-made : goal.returns-in-Ok-clause-made
returns-in-Ok-clause-made c =
    made_seen c.args.self.now c.change-made.new.self c.args.change c.in-Ok.outcome c.in-Ok.ensures.made c.history-legal.ensures.own c.history-legal-2.ensures.legal c.history-legal-2.ensures.own
