-- The names so far are the first of those that are spelled, and the others are spelled from here on.
use Rattle.std.proofs.Common.{◌≡◌, ◌-◌, ◌++◌, List, drop, length, map}
use Rattle.names.specs.Texts.{Text}
use Rattle.seq_bus_core.specs.Answers.{NameList}
use Rattle.bus_view.specs.Bodies.{IsBody}
use Rattle.trace_lines.specs.TextViews.{lent_text}
use Rattle.bus_trace.proofs.Strings.{AreSpelled}
use Rattle.bus_trace.proofs.bodies.read_names.Given as goal

abbrev pub invariant-loop-at : goal.invariant-loop-at
invariant-loop-at l =
    (names : List Text) → IsBody (NameList names) l.body →
    (left : List Text) × (map lent_text l.names.items ++ left ≡ names) × AreSpelled left l.at (drop l.at l.body)

abbrev pub decreases-loop-at : goal.decreases-loop-at
decreases-loop-at l = length l.body - l.at
