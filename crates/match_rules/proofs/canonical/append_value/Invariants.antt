use Rattle.std.proofs.Common.{◌≡◌, ◌++◌, length}
use Rattle.match_rules.specs.CanonicalTexts.{value_text}
use Rattle.match_rules.proofs.canonical.append_value.Given as goal

abbrev pub invariant-pieces : goal.invariant-pieces
invariant-pieces l = l.text ++ value_text l.rest ≡ l.fn.text ++ value_text l.value

abbrev pub decreases-pieces : goal.decreases-pieces
decreases-pieces l = length l.rest
