use Rattle.std.proofs.Common.{◌≡◌, None, length}
use Rattle.trace_words.specs.Cutting.{parts_left}
use Rattle.trace_words.specs.Recorded.{are_rising}
use Rattle.trace_words.proofs.recorded.are_rising.Given as goal

abbrev pub invariant-loop-text : goal.invariant-loop-text
invariant-loop-text l = are_rising l.last (parts_left l.numbers) ≡ are_rising None (parts_left l.initial.numbers)

abbrev pub decreases-loop-text : goal.decreases-loop-text
decreases-loop-text l = length (parts_left l.numbers)
