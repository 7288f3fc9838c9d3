-- How contracts see the entries of a rule that are read from its bytes.
use Rattle.std.specs.Prelude.{Bool}
use Rattle.std.specs.List.{list_all}
use Rattle.names.specs.Texts.{Text}
use Rattle.match_rules.specs.declared.key.Key.{Key}
use Rattle.match_rules.specs.declared.entries.Entry.{Entry}
use Rattle.match_rules.specs.declared.entries.Entries.{Entries}
use Rattle.match_rules.specs.Rules.{Rule}
use Rattle.match_rules.specs.RuleBytes.{rule_in}
use Rattle.match_rules.specs.RuleFaults.{takes}

abbrev pub pair_of : Entry → Key × Text
pair_of entry = (entry.key, entry.value.now)

abbrev pub entries_left : Entries → Rule
entries_left entries = rule_in entries.bytes.now

-- whether each key takes its value
abbrev pub all_taken : Rule → Bool
all_taken rule = list_all (λ entry. takes entry.0 entry.1) rule
