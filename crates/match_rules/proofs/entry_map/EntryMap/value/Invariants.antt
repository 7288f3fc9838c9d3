use Rattle.std.proofs.Common.{◌≡◌, true}
use Rattle.match_rules.specs.Rules.{IsRising, value_at}
use Rattle.match_rules.specs.EntryView.{all_taken, entries_left}
use Rattle.match_rules.proofs.entry_map.EntryMap.value.Given as goal

abbrev pub invariant-loop-entry : goal.invariant-loop-entry
invariant-loop-entry l = record {
  rising : ∥ IsRising (entries_left l.entry-iterator) ∥₁;
  taken : all_taken (entries_left l.entry-iterator) ≡ true;
  value : value_at l.fn.key (entries_left l.entry-iterator) ≡ value_at l.fn.key l.self;
}
