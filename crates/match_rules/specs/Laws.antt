-- What holds of rules, whatever their keys and values are.
use Rattle.std.specs.Prelude.{◌≡◌, ◌<◌, ◌≤◌, ◌↔◌, true, None, length}
use Rattle.names.specs.Texts.{Text}
use Rattle.names.specs.UniqueName.{unique_text}
use Rattle.match_rules.specs.declared.key.Key.TheVariants.{Sender}
use Rattle.match_rules.specs.Rules.{Rule, IsRule, same_rule}
use Rattle.match_rules.specs.RuleTexts.{IsRuleText}
use Rattle.match_rules.specs.CanonicalTexts.{rule_text}
use Rattle.match_rules.specs.RuleFaults.{rule_fault}
use Rattle.match_rules.specs.RuleBytes.{rule_bytes, rule_in}
use Rattle.match_rules.specs.Facts.{Facts}
use Rattle.match_rules.specs.Fitting.{Heads, holds}

-- Rules with the same keys and values are one rule.
abbrev pub SameRulesAreOne : Type 0
SameRulesAreOne = (a b : Rule) → IsRule a → IsRule b → (same_rule a b ≡ true) ↔ (a ≡ b)

-- What has room as a text has room in bytes, and is read from these again.
abbrev pub RulesHaveRoom : Type 0
RulesHaveRoom = (text : Text) (rule : Rule) → IsRuleText text rule → (length (rule_bytes rule) ≤ length text) × (rule_in (rule_bytes rule) ≡ rule)

-- A connection that has a number is known by its own name, whatever names are owned.
abbrev pub SendersAreKnownByName : Type 0
SendersAreKnownByName = (heads : Heads) (facts : Facts) → 0 < facts.sender → holds heads Sender (unique_text facts.sender) facts ≡ true

-- A text has no fault exactly where it is the text of a rule,
abbrev pub FaultsAreExact : Type 0
FaultsAreExact = (text : Text) → (rule_fault text ≡ None) ↔ ((rule : Rule) × IsRuleText text rule)

-- and of no other rule.
abbrev pub TextsHaveOneRule : Type 0
TextsHaveOneRule = (text : Text) (a b : Rule) → IsRuleText text a → IsRuleText text b → a ≡ b

-- The canonical text of a rule that has a text is a text of that rule,
abbrev pub CanonicalTextsAreTexts : Type 0
CanonicalTextsAreTexts = (text : Text) (rule : Rule) → IsRuleText text rule → IsRuleText (rule_text rule) rule

-- and none of its texts is shorter.
abbrev pub CanonicalTextsAreShortest : Type 0
CanonicalTextsAreShortest = (text : Text) (rule : Rule) → IsRuleText text rule → length (rule_text rule) ≤ length text
