use Rattle.match_index.proofs.EntryLemmas.{marked_is}
use Rattle.match_index.proofs.entries.mark.Goals as goal

pub returns : goal.returns
returns c = marked_is c.args.entries.now c.args.place c.index-entries-place.result c.requires
