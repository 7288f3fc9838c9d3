use Rattle.match_rules.proofs.ItemPlaces.{key_read, key_unknown, key_nowhere}
use Rattle.match_rules.proofs.reading.key_of.Goals as goal

pub returns-in_default : goal.returns-in_default
returns-in_default c = key_nowhere c.args.item.now c.in_default.ensures

pub returns-in-Some-named : goal.returns-in-Some-named
returns-in-Some-named c = key_read c.args.item.now c.in-Some.at c.in-Some-named.key c.in-Some.ensures c.in-Some-named.ensures

pub returns-in-None : goal.returns-in-None
returns-in-None c = key_unknown c.args.item.now c.in-Some.at c.in-Some.ensures c.in-None.ensures
