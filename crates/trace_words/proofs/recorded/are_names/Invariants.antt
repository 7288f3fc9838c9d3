use Rattle.std.proofs.Common.{◌≡◌, length}
use Rattle.std.specs.List.{list_all}
use Rattle.trace_words.specs.Cutting.{parts_left}
use Rattle.trace_words.specs.Words.{is_bus_name}
use Rattle.trace_words.proofs.recorded.are_names.Given as goal

abbrev pub invariant-loop-name : goal.invariant-loop-name
invariant-loop-name l = list_all is_bus_name (parts_left l.names) ≡ list_all is_bus_name (parts_left l.initial.names)

abbrev pub decreases-loop-name : goal.decreases-loop-name
decreases-loop-name l = length (parts_left l.names)
