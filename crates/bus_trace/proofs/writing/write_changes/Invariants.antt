-- The lines so far, with those that are left, are all lines.
use Rattle.std.proofs.Common.{◌≡◌, ◌++◌}
use Rattle.bus_trace.specs.Recordings.{changes_ended}
use Rattle.bus_trace.proofs.Changes.{lines_from}
use Rattle.bus_trace.proofs.writing.write_changes.Given as goal

abbrev pub invariant-loop-index : goal.invariant-loop-index
invariant-loop-index l =
    l.draft ++ lines_from l.place l.seat l.number l.words l.outcomes l.index ≡ l.initial.draft ++ changes_ended l.place l.seat l.number l.words l.outcomes
