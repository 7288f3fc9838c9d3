use Rattle.std.proofs.Common.{◌≡◌, length}
use Rattle.trace_words.specs.Cutting.{parts_left}
use Rattle.trace_lines.specs.Comparing.{same_words}
use Rattle.trace_lines.proofs.records.same_words.Given as goal

abbrev pub invariant-loop-word : goal.invariant-loop-word
invariant-loop-word l = same_words (parts_left l.words) (parts_left l.others) ≡ same_words (parts_left l.initial.words) (parts_left l.initial.others)

abbrev pub decreases-loop-word : goal.decreases-loop-word
decreases-loop-word l = length (parts_left l.words)
