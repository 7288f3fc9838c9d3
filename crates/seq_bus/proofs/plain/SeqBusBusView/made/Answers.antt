use Rattle.std.proofs.Common.{◌∙◌, length, ap}
use Rattle.seq_bus.proofs.PlainLemmas.{made_count}
use Rattle.seq_bus.proofs.plain.SeqBusBusView.made.Goals as goal

pub returns : goal.returns
returns c =
    let count = ap length c.history.ensures.value in
    count ∙ made_count c.args.self.now.seen c.history.ensures.own
