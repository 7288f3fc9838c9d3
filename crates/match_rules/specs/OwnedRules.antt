-- Rules of connections, in order of arrival.
use Rattle.std.specs.Prelude.{ℕ, ◌==◌, ◌&&◌, Bool, not, List, [], ◌∷◌, map, filter, count_by, if◌then◌else◌}
use Rattle.std.specs.List.{list_any}
use Rattle.match_rules.specs.Facts.{Facts}
use Rattle.match_rules.specs.Fitting.{Heads, fits}
use Rattle.match_rules.specs.Rules.{Rule, same_rule}

-- a rule, and the connection that added it
pub record OwnedRule : Type 0 where
  pub connection : ℕ
  pub rule : Rule

abbrev pub is_of : ℕ → OwnedRule → Bool
is_of connection r = r.connection == connection

-- the rules of a connection
abbrev pub rules_by : ℕ → List OwnedRule → List Rule
rules_by connection rules = map (λ r. r.rule) (filter (is_of connection) rules)

abbrev pub count_of : ℕ → List OwnedRule → ℕ
count_of connection rules = count_by (is_of connection) rules

-- a rule of the connection that is equal to this one
abbrev pub is_rule_of : ℕ → Rule → OwnedRule → Bool
is_rule_of connection rule r = is_of connection r && same_rule r.rule rule

-- the rules without the first that passes a test
abbrev pub without_first : (OwnedRule → Bool) → List OwnedRule → List OwnedRule
without_first test [] = []
without_first test (r ∷ rules) = if test r then rules else r ∷ without_first test rules

abbrev pub rules_without : ℕ → List OwnedRule → List OwnedRule
rules_without connection rules = filter (λ r. not (is_of connection r)) rules

-- whether a connection has a rule that fits
abbrev pub has_fitting : Heads → List OwnedRule → Facts → ℕ → Bool
has_fitting heads rules facts connection = list_any (λ r. is_of connection r && fits heads r.rule facts) rules
