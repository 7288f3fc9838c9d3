use Rattle.std.proofs.Common.{◌≡◌, true, subst}
use Rattle.match_rules.specs.RuleFaults.{takes}
use Rattle.match_rules.specs.declared.key.Key.TheVariants.{Sender, Destination}
use Rattle.match_rules.proofs.NameBytes.{names_utf8}
use Rattle.match_rules.proofs.entries.Entry.holds.Goals as goal

pub from_utf8_unchecked-requires : goal.from_utf8_unchecked-requires
from_utf8_unchecked-requires g c = names_utf8 Sender c.args.self.value.now tt (subst (λ key. takes key c.args.self.value.now ≡ true) c.in-Sender.is c.requires)

pub from_utf8_unchecked-requires-in-Destination : goal.from_utf8_unchecked-requires-in-Destination
from_utf8_unchecked-requires-in-Destination g c = names_utf8 Destination c.args.self.value.now tt (subst (λ key. takes key c.args.self.value.now ≡ true) c.in-Destination.is c.requires)
