use Rattle.std.proofs.Common.{◌≡◌, [], length}
use Rattle.trace_words.specs.Cutting.{parts_left}
use Rattle.trace_words.specs.Changes.{rules_from}
use Rattle.trace_words.proofs.rules.rules_in.Given as goal

abbrev pub invariant-loop-word : goal.invariant-loop-word
invariant-loop-word l = rules_from l.rules (parts_left l.words) ≡ rules_from [] (parts_left l.initial.words)

abbrev pub decreases-loop-word : goal.decreases-loop-word
decreases-loop-word l = length (parts_left l.words)
