use Rattle.std.proofs.Common.{◌≡◌, true}
use Rattle.match_rules.specs.EntryView.{all_taken, entries_left}
use Rattle.match_rules.specs.Fitting.{fits}
use Rattle.match_rules.proofs.rule.Rule.fits.Given as goal

abbrev pub invariant-loop-entry : goal.invariant-loop-entry
invariant-loop-entry g l =
    (goal.iterator-loop-entry g).can_next l.entry-iterator ×
    (goal.iterator-loop-entry g).is_finite l.entry-iterator ×
    (all_taken (entries_left l.entry-iterator) ≡ true) ×
    (fits (g.O.Owners.heads l.owners) (entries_left l.entry-iterator) l.facts ≡ fits (g.O.Owners.heads l.owners) l.self l.facts)
