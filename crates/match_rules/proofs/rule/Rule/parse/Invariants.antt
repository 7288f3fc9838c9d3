use Rattle.std.proofs.Common.{◌≤◌, ◌+◌, length}
use Rattle.match_rules.specs.declared.room.TheConstants.{MAX_RULE_LENGTH}
use Rattle.match_rules.specs.RuleBytes.{rule_bytes}
use Rattle.match_rules.proofs.ParseLemmas.{IsReadTo}
use Rattle.match_rules.proofs.rule.Rule.parse.Given as goal

abbrev pub invariant-items : goal.invariant-items
invariant-items l = record {
  read : IsReadTo l.text l.rest l.entries;
  room : length (rule_bytes l.entries) + length l.rest ≤ MAX_RULE_LENGTH;
}

abbrev pub decreases-items : goal.decreases-items
decreases-items l = length l.rest
