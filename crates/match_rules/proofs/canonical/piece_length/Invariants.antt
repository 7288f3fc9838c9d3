use Rattle.std.proofs.Common.{◌≡◌, ◌+◌, drop}
use Rattle.std.specs.List.{position_or_len}
use Rattle.match_rules.specs.CanonicalTexts.{is_apostrophe}
use Rattle.match_rules.proofs.canonical.piece_length.Given as goal

abbrev pub invariant-loop-i : goal.invariant-loop-i
invariant-loop-i l = l.i + position_or_len is_apostrophe (drop l.i l.value) ≡ position_or_len is_apostrophe l.value
