use Rattle.std.proofs.Common.{◌≡◌, ◌++◌, ◌∷◌}
use Rattle.std.specs.List.{flat_map}
use Rattle.match_rules.specs.EntryView.{entries_left}
use Rattle.match_rules.specs.RuleTexts.{comma}
use Rattle.match_rules.specs.CanonicalTexts.{entry_text, rule_text}
use Rattle.match_rules.proofs.rule.Rule.text.Given as goal

abbrev pub invariant-loop-entry : goal.invariant-loop-entry
invariant-loop-entry l = l.text ++ flat_map (λ entry. comma ∷ entry_text entry) (entries_left l.entry-iterator) ≡ rule_text l.self
