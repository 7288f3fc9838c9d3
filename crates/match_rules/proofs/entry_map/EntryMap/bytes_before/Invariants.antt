use Rattle.std.proofs.Common.{◌≡◌, ◌+◌}
use Rattle.match_rules.specs.EntryView.{entries_left}
use Rattle.match_rules.specs.Reading.{bytes_before}
use Rattle.match_rules.proofs.entry_map.EntryMap.bytes_before.Given as goal

abbrev pub invariant-loop-entry : goal.invariant-loop-entry
invariant-loop-entry l = l.before + bytes_before l.place (entries_left l.entry-iterator) ≡ bytes_before l.place l.self
