use Rattle.match_rules.proofs.CanonicalTextLaws.{canonical_is_shortest}
use Rattle.match_rules.proofs.laws.canonical_texts_are_shortest.Goals as goal

pub returns : goal.returns
returns c = canonical_is_shortest
