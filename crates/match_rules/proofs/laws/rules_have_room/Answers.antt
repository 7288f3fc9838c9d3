use Rattle.std.proofs.Common.{◌≤◌, subst, sym, length}
use Rattle.match_rules.specs.RuleBytes.{rule_bytes}
use Rattle.match_rules.proofs.RuleLemmas.{rule_has_room, rule_in-rule_bytes}
use Rattle.match_rules.proofs.laws.rules_have_room.Goals as goal

pub returns : goal.returns
returns c = λ text rule h. (subst (λ t. length (rule_bytes rule) ≤ length t) (sym h.2.3) (rule_has_room h.2.0 rule h.2.2), rule_in-rule_bytes rule h.0.1)
