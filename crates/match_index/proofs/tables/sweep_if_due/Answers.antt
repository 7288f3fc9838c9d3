use Rattle.std.proofs.Common.{arith}
use Rattle.match_index.proofs.EntryLemmas.{live_few}
use Rattle.match_index.proofs.tables.sweep_if_due.Goals as goal

pub overflow_sub-gone : goal.overflow_sub-gone
overflow_sub-gone c = omega (arith, live_few c.args.entries.now.items, c.len.ensures, c.len-2.ensures, c.args.entries.now.ok.0, c.requires.indexed.owned.all)
