use Rattle.std.proofs.Common.{◌≡◌}
use Rattle.match_rules.specs.EntryView.{entries_left}
use Rattle.match_rules.specs.Reading.{keys_of}
use Rattle.match_rules.specs.RuleFaults.{is_among}
use Rattle.match_rules.proofs.entry_map.EntryMap.has.Given as goal

abbrev pub invariant-loop-entry : goal.invariant-loop-entry
invariant-loop-entry l = is_among l.key (keys_of (entries_left l.entry-iterator)) ≡ is_among l.key (keys_of l.self)
