use Rattle.match_rules.proofs.CanonicalTextLaws.{canonical_is_text}
use Rattle.match_rules.proofs.laws.canonical_texts_are_texts.Goals as goal

pub returns : goal.returns
returns c = canonical_is_text
