use Rattle.std.proofs.Common.{◌≡◌, length}
use Rattle.std.specs.List.{list_all}
use Rattle.trace_words.specs.Cutting.{parts_left}
use Rattle.trace_words.specs.Recorded.{is_signal}
use Rattle.trace_words.proofs.recorded.is_signals.Given as goal

abbrev pub invariant-loop-told : goal.invariant-loop-told
invariant-loop-told l = list_all is_signal (parts_left l.signals) ≡ list_all is_signal (parts_left l.initial.signals)

abbrev pub decreases-loop-told : goal.decreases-loop-told
decreases-loop-told l = length (parts_left l.signals)
