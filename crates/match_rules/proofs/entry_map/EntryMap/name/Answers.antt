use Rattle.match_rules.proofs.NameBytes.{names_utf8}
use Rattle.match_rules.proofs.entry_map.EntryMap.name.Goals as goal

pub from_utf8_unchecked-requires : goal.from_utf8_unchecked-requires
from_utf8_unchecked-requires c = names_utf8 c.args.key c.in_ok-name.name.now c.requires c.in_ok-name.ensures.taken
